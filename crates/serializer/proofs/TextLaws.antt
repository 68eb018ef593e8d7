-- The text of an entry: whether anything of it is shown, its indentation and prefix, and the text behind them.
use mathlib.Core.Path.{◌≡◌, refl, sym, ap, ◌∙◌}
use mathlib.Core.Bool.{Bool, true, false, ◌&&◌, ◌||◌, not}
use mathlib.Core.List.{List, []}
use Prim.Native.Nat.{ℕ, ◌+◌, ◌-◌, ◌*◌, ◌<◌}
use native.Mathlib.Omega.{arith}
use lib.Dec.{eqb, ltb}
use lib.ListN.{replicate, length-replicate}
use borrow.Author.Tests.{ne_eqb}
use Rattle.common.specs.Bytes.{Bytes, is_empty, length_limit}
use Rattle.common.proofs.Choice.{by_test}
use Rattle.text.specs.Text.{trim_start_by, collapse_by, collapse_from}
use Rattle.writer.specs.Out.{Out, push_all}
use Rattle.writer.specs.Shown.{shown}
use Rattle.writer.specs.Writing.{Ready, Does}
use Rattle.writer.specs.declared.Writer.{Writer}
use Rattle.writer.proofs.DoesLaws.{grows_push_all}
use Rattle.writer.proofs.HeldLaws.{run_small}
use Rattle.writer.proofs.ShownLaws.{shown_shortened}
use Rattle.html2text.specs.Serialize.{State, on_out, with_prefix, with_bullet, with_uncollapsed, one, collapses, margin, trims, shortened, indent_text, lead, put_text, bullet_text, number_text}
use Rattle.html2text.specs.declared.ExtractNode.{ExtractNode}
use Rattle.serializer.specs.Serializing.{set_writer, set_prefix, set_bullet, set_uncollapsed, Lent, lent, Stands, AbleOut, WorksAlone, WorksOut, prefix_text}
use Rattle.serializer.specs.declared.Serializer.{Serializer}
use Rattle.serializer.proofs.MarginLaws.{rises_margin}
use Rattle.serializer.proofs.RowLaws.{ends_blank_law}
use Rattle.serializer.proofs.StandsLaws.{stands_prefix, stands_bullet, stands_uncollapsed}
use Rattle.serializer.proofs.WorksLaws.{Rises, rises_none, rises_then, rises_cond, out_none, out_alone, out_first, out_able_by, out_by, out_then, text_ready, text_works}

-- ---- where the leading blanks go

pub trims_is : {write : Bool} {under : Bytes} {s : Serializer} {a : Lent} {S : State} (block : Bool) → Stands write under s a S → trims block S ≡ (block || ltb s.writer.kept s.writer.len)
trims_is {S = S} block h = rw (h.held.len, h.held.kept, ends_blank_law S.out.text)

-- ---- indentation

abbrev pub width : Bool → Serializer → ℕ
width bullets s = (s.depth + one (bullets && eqb s.bullet 0)) * 2

abbrev width_of : Bool → State → ℕ
width_of bullets S = (S.depth + one (bullets && not S.bullet)) * 2

no_bullet : (b : Bool) → eqb (one b) 0 ≡ not b
no_bullet true = refl
no_bullet false = refl

bullet_alone : (s : Serializer) (b : Bool) → WorksAlone s (set_bullet b s) (with_bullet b)
bullet_alone s b = record { at = λ write a. record { run = λ under S h. stands_bullet h b } }

abbrev indentation : Bool → State → Out → Out
indentation bullets S = push_all (replicate (width_of bullets S) 0x20)

module _ {write : Bool} {s : Serializer} (basic bullets : Bool) where
  test_is : {t : Bool} → (basic && ltb 0 s.depth) ≡ t → {under : Bytes} {a : Lent} {S : State} → Stands write under s a S → (basic && ltb 0 S.depth) ≡ t
  test_is e h = ap (λ (d : ℕ). basic && ltb 0 d) (sym h.depth) ∙ e

  width_is : (under : Bytes) (a : Lent) (S : State) → Stands write under s a S → indentation bullets S S.out ≡ push_all (replicate (width bullets s) 0x20) S.out
  width_is under a S h = rw (h.depth, h.bullet, no_bullet S.bullet)

  module _ {buf : Bytes} (e : (basic && ltb 0 s.depth) ≡ true) where
    indent_is : (numbering : List ℕ) (cells : List Bool) (under : Bytes) (S : State) → Stands write under s (lent numbering cells buf) S → indent_text basic bullets S ≡ with_bullet false (on_out (indentation bullets S) S)
    unfolding indent_text
    indent_is numbering cells under S h = rw (test_is e h)

    pub indent_ready : AbleOut write s buf (indent_text basic bullets) → Ready write s.writer buf (push_all (replicate (width bullets s) 0x20))
    indent_ready r = text_ready (indentation bullets) width_is (out_first {G = with_bullet false} (record { rise = λ S. omega arith }) (out_able_by r indent_is))

    pub indent_small : AbleOut write s buf (indent_text basic bullets) → width bullets s < length_limit
    indent_small r = omega (arith, run_small (replicate (width bullets s) 0x20) (indent_ready r), length-replicate {A = ℕ} (width bullets s) 0x20)

    pub indent_works : {w : Writer} {buf' : Bytes} → Does write s.writer buf w buf' (push_all (replicate (width bullets s) 0x20)) → WorksOut write s buf (set_bullet false (set_writer w s)) buf' (indent_text basic bullets)
    indent_works d = out_by (out_then (text_works (indentation bullets) width_is d) (out_alone (bullet_alone _ false))) (λ numbering cells under S h. sym (indent_is numbering cells under S h))

  pub indent_none : {buf : Bytes} → (basic && ltb 0 s.depth) ≡ false → WorksOut write s buf s buf (indent_text basic bullets)
  unfolding indent_text
  indent_none e = out_by out_none (λ numbering cells under S h. sym (rw (test_is e h)))

pub rises_indent : (basic bullets : Bool) → Rises (indent_text basic bullets)
unfolding indent_text
rises_indent basic bullets =
    rises_cond (λ S. basic && ltb 0 S.depth) (record { rise = λ S. (grows_push_all (replicate (width_of bullets S) 0x20)).grow S.out }) rises_none

-- ---- the prefix

unfoldable pub prefix_out : State → State
prefix_out S = with_prefix [] (on_out (push_all S.prefix) S)

pub lead_is : (basic bullets : Bool) (S : State) → lead basic bullets S ≡ prefix_out (indent_text basic bullets S)
unfolding lead prefix_out
lead_is basic bullets S = refl

pub prefix_none : (k : ℕ) → k ≡ 0 → prefix_text k ≡ []
prefix_none k e = rw e

pub prefix_bullet : (k : ℕ) → k ≡ 1 → prefix_text k ≡ bullet_text
prefix_bullet k e = rw e

pub prefix_number : (k : ℕ) → (k ≡ 0 → ⊥) → (k ≡ 1 → ⊥) → prefix_text k ≡ number_text (k - 1)
prefix_number k n o = rw (ne_eqb k 0 n, ne_eqb k 1 o)

prefix_alone : (s : Serializer) → WorksAlone s (set_prefix 0 s) (with_prefix [])
prefix_alone s = record { at = λ write a. record { run = λ under S h. stands_prefix h refl } }

module _ {write : Bool} {s : Serializer} where
  prefix_is : (under : Bytes) (a : Lent) (S : State) → Stands write under s a S → push_all S.prefix S.out ≡ push_all (prefix_text s.prefix) S.out
  prefix_is under a S h = rw h.prefix

  pub prefix_ready : {buf : Bytes} → AbleOut write s buf prefix_out → Ready write s.writer buf (push_all (prefix_text s.prefix))
  unfolding prefix_out
  prefix_ready r = let k = r.able in record { under = k.under; out = k.state.out; held = k.stands.held; room = rw k.stands.prefix k.room }

  pub prefix_works : {buf : Bytes} {w : Writer} {buf' : Bytes} → Does write s.writer buf w buf' (push_all (prefix_text s.prefix)) → WorksOut write s buf (set_prefix 0 (set_writer w s)) buf' prefix_out
  unfolding prefix_out
  prefix_works d = out_then (text_works (λ S. push_all S.prefix) prefix_is d) (out_alone (prefix_alone _))

pub rises_prefix : Rises prefix_out
unfolding prefix_out
rises_prefix = record { rise = λ S. (grows_push_all S.prefix).grow S.out }

pub rises_lead : (basic bullets : Bool) → Rises (lead basic bullets)
rises_lead basic bullets = record { rise = λ S. rw (lead_is basic bullets S) ((rises_then (rises_indent basic bullets) rises_prefix).rise S) }

-- ---- the text

pub clear_alone : (s : Serializer) → WorksAlone s (set_uncollapsed 0 s) (with_uncollapsed 0)
clear_alone s = record { at = λ write a. record { run = λ under S h. stands_uncollapsed h refl } }

pub rises_clear : Rises (with_uncollapsed 0)
rises_clear = record { rise = λ S. omega arith }

unfoldable pub show_text : Bool → Bool → Bool → Bytes → State → State
show_text squeeze trim escapes text = on_out (push_all (shown squeeze trim escapes text))

pub rises_show : (squeeze trim escapes : Bool) (text : Bytes) → Rises (show_text squeeze trim escapes text)
unfolding show_text
rises_show squeeze trim escapes text = record { rise = λ S. (grows_push_all (shown squeeze trim escapes text)).grow S.out }

module _ {write : Bool} {s : Serializer} {buf : Bytes} (squeeze trim escapes : Bool) (text : Bytes) where
  pub show_ready : AbleOut write s buf (show_text squeeze trim escapes text) → Ready write s.writer buf (push_all (shown squeeze trim escapes text))
  unfolding show_text
  show_ready r = text_ready (λ S. push_all (shown squeeze trim escapes text)) (λ under a S h. refl) r

  pub show_works : {w : Writer} {buf' : Bytes} → Does write s.writer buf w buf' (push_all (shown squeeze trim escapes text)) → WorksOut write s buf (set_writer w s) buf' (show_text squeeze trim escapes text)
  unfolding show_text
  show_works d = text_works (λ S. push_all (shown squeeze trim escapes text)) (λ under a S h. refl) d

-- what is behind the margin
pub rises_behind : (basic bullets squeeze trim escapes : Bool) (text : Bytes) → Rises (λ S. show_text squeeze trim escapes text (lead basic bullets (with_uncollapsed 0 S)))
rises_behind basic bullets squeeze trim escapes text =
    rises_then (rises_then rises_clear (rises_lead basic bullets)) (rises_show squeeze trim escapes text)

module _ (off basic bullets : Bool) (n : ExtractNode) (block : Bool) (text : Bytes) (S : State) where
  put_text_is : is_empty (shortened (collapses off n) (trims block S) text) ≡ false
      → put_text off basic bullets n block text S ≡ show_text (collapses off n) (trims block S) n.escape text (lead basic bullets (with_uncollapsed 0 (margin (collapses off n) off S)))
  unfolding put_text show_text
  put_text_is e = rw (e, shown_shortened (collapses off n) (trims block S) n.escape text)

  put_text_empty : is_empty (shortened (collapses off n) (trims block S) text) ≡ true → put_text off basic bullets n block text S ≡ S
  unfolding put_text
  put_text_empty e = rw e

pub rises_put_text : (off basic bullets : Bool) (n : ExtractNode) (block : Bool) (text : Bytes) → Rises (put_text off basic bullets n block text)
rises_put_text off basic bullets n block text =
    record {
      rise = λ S. by_test (is_empty (shortened (collapses off n) (trims block S) text))
          (λ e. rw (put_text_empty off basic bullets n block text S e) (omega arith))
          (λ e. rw (put_text_is off basic bullets n block text S e)
          ((rises_then (rises_margin (collapses off n) off) (rises_behind basic bullets (collapses off n) (trims block S) n.escape text)).rise S));
    }

pub put_text_nothing : (off basic bullets : Bool) (n : ExtractNode) (block : Bool) (S : State) → put_text off basic bullets n block [] S ≡ S
unfolding collapse_by collapse_from trim_start_by
put_text_nothing off basic bullets n block S = put_text_empty off basic bullets n block [] S (nothing_left (collapses off n) (trims block S))
  where
    nothing_left : (squeeze trim : Bool) → is_empty (shortened squeeze trim []) ≡ true
    nothing_left true true = refl
    nothing_left true false = refl
    nothing_left false trim = refl
