-- What is read off an accepted sheet by what is decoded of it.
use Rattle.std.specs.Prelude.{Ok}
use mathlib.Core.Path.{◌≡◌, refl, sym, ap, ◌∙◌, subst}
use Prim.Native.Nat.{ℕ, ◌^◌, ◌≤◌, ◌<◌}
use native.Mathlib.Omega.{arith}
use lib.Dec.{lit<}
use lib.ListN.{length, get_or, length-map, get_or-map}
use Rattle.common.specs.Bytes.{Bytes}
use Rattle.sheet.specs.Layout.{no_row, pool_limit, row_at}
use Rattle.sheet.specs.Notes.{Lined}
use Rattle.sheet.specs.Verdict.{verdict, verdict_of}
use Rattle.sheet.specs.declared.line.Layout.{Layout}
use Rattle.sheet.specs.declared.line.Row.{Row}
use Rattle.tree.specs.Page.{page_of}
use Rattle.sheet_form.specs.Decoded.{Decoded, row_in, depths_in, layout_for}
use Rattle.sheet_form.specs.Encoding.{decode, encode, Fits}
use Rattle.sheet_form.specs.Marks.{ButMarks}
use Rattle.sheet_form.specs.Pages.{page_in}
use Rattle.sheet_form.specs.Right.{Right}
use Rattle.sheet_form.proofs.DecodeEncode.{row_is, encode_lined, decode_encode}
use Rattle.sheet_form.proofs.EncodeDecode.{of_lined}
use Rattle.sheet_form.proofs.Lists.{listed_at}
use Rattle.sheet_form.proofs.Marking.{marks_right}
use Rattle.sheet_form.proofs.PageLaws.{page_encode, page_decode}
use Rattle.sheet_form.proofs.Rightness.{encode_accepted, of_accepted}
use Rattle.sheet_form.proofs.Widths.{right_fits}

layout_same : (w : ℕ) (d x : Decoded)
    → length x.rows ≡ length d.rows → length x.attributes ≡ length d.attributes → length x.pool ≡ length d.pool
    → x.root ≡ d.root → layout_for w x ≡ layout_for w d
layout_same w d x p q r t i = record { width = w; nodes = p i; attributes = q i; pool = r i; root = t i }

-- d is what is decoded of the accepted sheet s
pub record Decodes (s : Bytes) (l : Layout) (d : Decoded) : Type 0 where
  pub accepted : verdict s ≡ Ok l
  pub width : l.width ≡ 8
  pub lined : Lined s l
  pub decoded : decode l s ≡ d
  pub bytes : encode l.width d ≡ s
  pub right : Right d
  pub layout : layout_for l.width d ≡ l
  pub size : length d.rows ≡ l.nodes
  pub pool : length d.pool ≡ l.pool
  pub root : d.root ≡ l.root
  pub root_there : l.root < l.nodes
  pub row : (j : ℕ) → j < l.nodes → row_in d j ≡ row_at s l j
  pub depth : (j : ℕ) → get_or (depths_in d) j 0 ≡ (row_in d j).depth
  pub depths_size : length (depths_in d) ≡ l.nodes
  pub page : page_of s l ≡ page_in d
  pub pool_small : length d.pool ≤ pool_limit l.width

pub decodes : {s : Bytes} {l : Layout} → verdict s ≡ Ok l → Decodes s l (decode l s)
unfolding decode
decodes {s} {l} e =
    let a = of_accepted (omega arith) s l e in
    let lined = a.1 in
    let right = a.2 in
    let whole = of_lined lined in
    let size = ap (λ (x : Layout). x.nodes) whole.layout in
    record {
      accepted = e;
      width = a.0;
      lined = lined;
      decoded = refl;
      bytes = whole.bytes;
      right = right;
      layout = whole.layout;
      size = size;
      pool = ap (λ (x : Layout). x.pool) whole.layout;
      root = ap (λ (x : Layout). x.root) whole.layout;
      root_there = omega (arith, right.root_row, size);
      row = listed_at (row_at s l) no_row l.nodes;
      depth = λ j. get_or-map (λ (r : Row). r.depth) (decode l s).rows j no_row;
      depths_size = length-map (decode l s).rows _ ∙ size;
      page = page_decode lined right;
      pool_small = a.3;
    }

-- ---- another sheet with the same pool and the same layout

module _ {s : Bytes} {l : Layout} {d x : Decoded} (a : Decodes s l d) (r : Right x)
    (same : layout_for l.width x ≡ layout_for l.width d) where
  abbrev w : ℕ
  w = l.width

  pool_same : length x.pool ≤ pool_limit w
  pool_same = omega (arith, ap (λ (k : Layout). k.pool) same, a.pool_small)

  fits : Fits w x
  fits =
      let power : 10 ^ w ≡ 10 ^ 8 = ap (λ (n : ℕ). 10 ^ n) a.width in
      let small : pool_limit 8 < 10 ^ 8 = lit< tt in
      right_fits r (omega (arith, a.width)) (omega (arith, a.width)) (omega (arith, pool_same, power, small))

  pub encode_decodes : Decodes (encode w x) l x
  encode_decodes =
      let layout = same ∙ a.layout in
      let size = ap (λ (k : Layout). k.nodes) layout in
      record {
        accepted = ap (λ (k : ℕ). verdict_of k (encode w x)) (sym a.width) ∙ encode_accepted fits r pool_same ∙ ap Ok layout;
        width = a.width;
        lined = subst (Lined (encode w x)) layout (encode_lined w x fits);
        decoded = ap (λ (k : Layout). decode k (encode w x)) (sym layout) ∙ decode_encode w x fits;
        bytes = refl;
        right = r;
        layout = layout;
        size = size;
        pool = ap (λ (k : Layout). k.pool) layout;
        root = ap (λ (k : Layout). k.root) layout;
        root_there = a.root_there;
        row = λ j h. sym (ap (λ (k : Layout). row_at (encode w x) k j) (sym layout) ∙ row_is w x fits j);
        depth = λ j. get_or-map (λ (y : Row). y.depth) x.rows j no_row;
        depths_size = length-map x.rows _ ∙ size;
        page = ap (page_of (encode w x)) (sym layout) ∙ page_encode w x fits r;
        pool_small = pool_same;
      }

-- other marks
pub remarked : {s : Bytes} {l : Layout} {d x : Decoded} → Decodes s l d → ButMarks d x → Decodes (encode l.width x) l x
remarked {s} {l} {d} {x} a m =
    encode_decodes a (marks_right m a.right)
    (layout_same l.width d x m.length_rows (ap length m.attributes) (ap length m.pool) m.root)
