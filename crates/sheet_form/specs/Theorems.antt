-- What holds between sheets, decoded sheets and their bytes.
use Rattle.std.specs.Prelude.{◌≡◌, ◌↔◌, ℕ, ◌^◌, ◌≤◌, ◌<◌, length, Ok}
use Rattle.common.specs.Bytes.{Bytes}
use Rattle.sheet.specs.Layout.{pool_limit, row_at, attribute_at, range}
use Rattle.sheet.specs.Notes.{Lined}
use Rattle.sheet.specs.Verdict.{numbers, verdict_of}
use Rattle.sheet.specs.declared.line.Layout.{Layout}
use Rattle.tree.specs.Page.{page_of}
use Rattle.sheet_form.specs.Decoded.{Decoded, layout_for, row_in, attribute_in, range_in}
use Rattle.sheet_form.specs.Encoding.{encode, decode, Fits}
use Rattle.sheet_form.specs.Judged.{counts_in, verdict_in}
use Rattle.sheet_form.specs.Marks.{ButMarks, set_skip}
use Rattle.sheet_form.specs.Pages.{page_in}
use Rattle.sheet_form.specs.Right.{Right}

-- ---- from bytes

-- a sheet that 11 and 12 do not refuse, whatever its numbers say
pub record OfLined (s : Bytes) (l : Layout) : Type 0 where
  -- every byte comes back
  pub bytes : encode l.width (decode l s) ≡ s
  pub layout : layout_for l.width (decode l s) ≡ l
  pub fits : Fits l.width (decode l s)

-- an accepted sheet
pub record OfAccepted (w : ℕ) (s : Bytes) (l : Layout) : Type 0 where
  pub width : l.width ≡ w
  pub lined : Lined s l
  pub right : Right (decode l s)
  pub pool : length (decode l s).pool ≤ pool_limit l.width
  pub page : page_of s l ≡ page_in (decode l s)

-- ---- from numbers, where they have room in the columns

pub record OfDecoded (w : ℕ) (d : Decoded) : Type 0 where
  pub lined : Lined (encode w d) (layout_for w d)
  pub decoded : decode (layout_for w d) (encode w d) ≡ d
  pub row : (i : ℕ) → row_at (encode w d) (layout_for w d) i ≡ row_in d i
  pub attribute : (j : ℕ) → attribute_at (encode w d) (layout_for w d) j ≡ attribute_in d j
  pub range : (at len : ℕ) → range (encode w d) (layout_for w d) at len ≡ range_in d at len
  -- the verdict on the bytes is one over the numbers
  pub verdict : verdict_of w (encode w d) ≡ verdict_in w d
  -- they are accepted just where the numbers are right
  pub accepted : (verdict_of w (encode w d) ≡ Ok (layout_for w d)) ↔ (Right d × (length d.pool ≤ pool_limit w))
  pub page : Right d → page_of (encode w d) (layout_for w d) ≡ page_in d

-- ---- two widths

pub record OfWidths (w v : ℕ) (d : Decoded) : Type 0 where
  -- a refusal has the same numbers at both, unless the pool is too long for one of them
  pub refusal : counts_in d (pool_limit w) ≡ counts_in d (pool_limit v) → numbers (verdict_of w (encode w d)) ≡ numbers (verdict_of v (encode v d))
  -- written at one, decoded and written at the other
  pub rewritten : encode w (decode (layout_for v d) (encode v d)) ≡ encode w d

-- ---- all of them

pub record Theorems : Type 0 where
  pub of_lined : {s : Bytes} {l : Layout} → Lined s l → OfLined s l
  pub of_accepted : {w : ℕ} {s : Bytes} {l : Layout} → w ≤ 10 → verdict_of w s ≡ Ok l → OfAccepted w s l
  pub of_decoded : {w : ℕ} {d : Decoded} → Fits w d → OfDecoded w d
  pub of_widths : {w v : ℕ} {d : Decoded} → Fits w d → Fits v d → OfWidths w v d
  -- what is right has room wherever 60,000 and its pool's length have
  pub room : {w : ℕ} {d : Decoded} → Right d → 5 ≤ w → w ≤ 10 → length d.pool < 10 ^ w → Fits w d
  -- what is right is right with other marks
  pub marks : {d e : Decoded} → ButMarks d e → Right d → Right e
  pub mark : {d : Decoded} → Right d → (i : ℕ) → i < length d.rows → (m : ℕ) → m ≤ 1 → Right (set_skip i m d)
