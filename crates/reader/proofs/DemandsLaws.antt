-- The three demands hold.
use Rattle.std.specs.Prelude.{Result, Ok, Err}
use mathlib.Core.Path.{◌≡◌, refl, sym, ap, ◌∙◌}
use mathlib.Core.Bool.{Bool, true, false, cond}
use mathlib.Core.List.{[]}
use Prim.Native.Nat.{ℕ}
use native.Mathlib.Omega.{arith}
use lib.Dec.{ltb, lit≤}
use lib.ListN.{length}
use Rattle.common.specs.Bytes.{Bytes, padded}
use Rattle.html2text.specs.Demand3.{Gives}
use Rattle.html2text.specs.Extract.{Run, going, too_many_levels, too_many_rows, finished, concluded, out_then, work_then, hidden, entries, passes, work_need, work_need_of, serialized, extraction, out_after, work_after, numbers}
use Rattle.html2text.specs.Extract as extract
use Rattle.html2text.specs.Serialize.{State}
use Rattle.html2text.specs.Theorems.{WalkOfTree}
use Rattle.html2text.specs.Walk.{Sofar}
use Rattle.html2text.specs.declared.ExtractError.{ExtractError}
use Rattle.html2text.specs.declared.Extracted.{Extracted}
use Rattle.html2text.specs.declared.ExtractError.TheVariants.{Refused, ListLevels, OpenRows, WorkTooShort, OutTooShort}
use Rattle.html2text.proofs.Demand3Laws as html2text
use Rattle.html2text.proofs.EncodedLaws.{text_is_utf8}
use Rattle.html2text.proofs.GivenLaws.{gives_text}
use Rattle.html2text.proofs.GoingLaws.{going_at}
use Rattle.html2text.proofs.PageLaws.{page_right}
use Rattle.html2text.proofs.WalkLaws.{walk_of_tree}
use Rattle.options.specs.declared.ExtractOptions.{ExtractOptions}
use Rattle.sheet.specs.Verdict.{verdict}
use Rattle.sheet.specs.declared.line.Layout.{Layout}
use Rattle.sheet.specs.declared.verdict.SheetError.{SheetError}
use Rattle.sheet.specs.declared.verdict.SheetError.TheVariants.{Length, Format, Counts, Kind, Tree, Range, Encoding}
use Rattle.sheet.proofs.Acceptance.{accepts}
use Rattle.tree.specs.Page.{Page, page_of}
use Rattle.tree.specs.Questions.{on_sheet}
use Rattle.tree.proofs.SheetLaws.{sheet_is_tree}
use Rattle.reader.specs.Demands.{is_one_of, is_number, Demand1, Demand2, Demand3, loop_extraction}
use Rattle.reader.specs.Extraction.{filters, extraction_of}
use Rattle.reader.specs.Rust.{rust_hidden, rust_loop, rust_state, rust_text}
use Rattle.reader.proofs.RustLaws.{hides_rows, going_serialized, rust_options_law}

-- ---- 1

-- what an answer with the buffers after it says
record Right (out work : Bytes) (r : Result Extracted ExtractError) (out' work' : Bytes) : Type 0 where
  number : is_number (numbers r).number ≡ true
  text : (numbers r).number ≡ 0 → (t : Bytes) × ((numbers r).length ≡ length t) × (out' ≡ padded t (length out)) × (work' ≡ padded [] (length work))
  refused : ((numbers r).number ≡ 0 → ⊥) → (out' ≡ out) × ((numbers r).visits ≡ 0) × ((numbers r).length ≡ 0)
  kept : ((numbers r).number ≡ 0 → ⊥) → ((numbers r).number ≡ 32 → ⊥) → work' ≡ work
  cleared : (numbers r).number ≡ 32 → work' ≡ padded [] (length work)

module _ (out work : Bytes) where
  text_right_law : (visits : ℕ) (t : Bytes) → Right out work (Ok (record { visits = visits; len = length t })) (padded t (length out)) (padded [] (length work))
  unfolding is_one_of
  text_right_law visits t =
      record { number = refl; text = λ e. (t, refl, refl, refl); refused = λ n. absurd (n refl); kept = λ n m. absurd (n refl); cleared = λ e. absurd (omega (arith, e)) }

  -- a refusal that changes nothing
  unchanged : (r : Result Extracted ExtractError) → is_number (numbers r).number ≡ true → ((numbers r).number ≡ 0 → ⊥) → ((numbers r).number ≡ 32 → ⊥) → (numbers r).visits ≡ 0 → (numbers r).length ≡ 0 → Right out work r out work
  unchanged r is z other v l =
      record { number = is; text = λ e. absurd (z e); refused = λ n. (refl, v, l); kept = λ n m. refl; cleared = λ e. absurd (other e) }

  out_short : (need : ℕ) → Right out work (Err (OutTooShort need)) out (padded [] (length work))
  unfolding is_one_of
  out_short need =
      record { number = refl; text = λ e. absurd (omega (arith, e)); refused = λ n. (refl, refl, refl); kept = λ n m. absurd (m refl); cleared = λ e. refl }

  module _ (need visits : ℕ) where
    going_right : (S : State) (a b : Bool)
        → Right out work (cond {A = Result Extracted ExtractError} a (Err (WorkTooShort need)) (cond {A = Result Extracted ExtractError} b (Err (OutTooShort S.out.peak)) (Ok (record { visits = visits; len = length (finished S) }))))
        (cond a out (cond b out (padded (finished S) (length out)))) (cond a work (padded [] (length work)))
    unfolding is_one_of
    going_right S true b = unchanged (Err (WorkTooShort need)) refl (λ e. omega (arith, e)) (λ e. omega (arith, e)) refl refl
    going_right S false true = out_short S.out.peak
    going_right S false false = text_right_law visits (finished S)

    run_right : (r : Run) → Right out work (concluded need visits r (length out) (length work)) (out_then need visits r out work) (work_then need visits r work)
    unfolding is_one_of
    run_right (going S) = going_right S (ltb (length work) need) (ltb (length out) S.out.peak)
    run_right (too_many_levels line) = unchanged (Err (ListLevels line)) refl (λ e. omega (arith, e)) (λ e. omega (arith, e)) refl refl
    run_right (too_many_rows line) = unchanged (Err (OpenRows line)) refl (λ e. omega (arith, e)) (λ e. omega (arith, e)) refl refl

  verdict_right : (f : Layout → Result Extracted ExtractError) (g h : Layout → Bytes) → ((l : Layout) → Right out work (f l) (g l) (h l)) → (v : Result Layout SheetError)
      → Right out work (on_sheet f (λ e. Err (Refused e)) v) (on_sheet g (λ x. out) v) (on_sheet h (λ x. work) v)
  unfolding is_one_of
  verdict_right f g h a (Ok l) = a l
  verdict_right f g h a (Err (Length n)) = unchanged (Err (Refused (Length n))) refl (λ e. omega (arith, e)) (λ e. omega (arith, e)) refl refl
  verdict_right f g h a (Err (Format line)) = unchanged (Err (Refused (Format line))) refl (λ e. omega (arith, e)) (λ e. omega (arith, e)) refl refl
  verdict_right f g h a (Err Counts) = unchanged (Err (Refused Counts)) refl (λ e. omega (arith, e)) (λ e. omega (arith, e)) refl refl
  verdict_right f g h a (Err (Kind line)) = unchanged (Err (Refused (Kind line))) refl (λ e. omega (arith, e)) (λ e. omega (arith, e)) refl refl
  verdict_right f g h a (Err (Tree line)) = unchanged (Err (Refused (Tree line))) refl (λ e. omega (arith, e)) (λ e. omega (arith, e)) refl refl
  verdict_right f g h a (Err (Range line)) = unchanged (Err (Refused (Range line))) refl (λ e. omega (arith, e)) (λ e. omega (arith, e)) refl refl
  verdict_right f g h a (Err (Encoding line)) = unchanged (Err (Refused (Encoding line))) refl (λ e. omega (arith, e)) (λ e. omega (arith, e)) refl refl

pub demand_1 : Demand1
unfolding extract.extraction_of extract.out_after_of extract.work_after_of extraction out_after work_after
demand_1 s o out work =
    let r = verdict_right out work (λ l. extraction (left l) (page_of s l) o (length out) (length work)) (λ l. out_after (left l) (page_of s l) o out work) (λ l. work_after (left l) (page_of s l) o work)
    (λ l. run_right out work (work_need (left l) (page_of s l) o) (passes (left l) (page_of s l) o) (serialized o (entries (left l) (page_of s l) o)))
    (verdict s) in
    record { number = r.number; text = r.text; refused = r.refused; kept = r.kept; cleared = r.cleared }
  where
    left : Layout → ℕ → Bool
    left l = filters (page_of s l).node (page_of s l).depths (page_of s l).root o

-- ---- 2

module _ (s : Bytes) (l : Layout) (o : ExtractOptions) (e : verdict s ≡ Ok l) where
  abbrev page : Page
  page = page_of s l

  abbrev left_out : ℕ → Bool
  left_out = filters page.node page.depths page.root o

  walk : WalkOfTree page (rust_hidden page o) (hidden left_out page o) o
  walk = walk_of_tree page (rust_hidden page o) (hidden left_out page o) o (hides_rows page o) (page_right (accepts (lit≤ tt) e).1)

  rust_text_law : o.icons ≡ false → o.missing_alt ≡ false → (out work t : Bytes) → Gives filters s o out work t → t ≡ rust_text page o
  unfolding rust_text
  rust_text_law icons missing out work t g =
      let es = entries left_out page o in
      let given = gives_text filters l e g in
      given.text
      ∙ ap finished (going_at (λ S. S ≡ rust_state o es) (going_serialized o es) given.run)
      ∙ ap (λ (so : Sofar). finished (rust_state o so.nodes)) (sym walk.same)
      ∙ ap (λ (a : ExtractOptions). finished (rust_state a (rust_loop page a).nodes)) (rust_options_law o icons missing)

  rust_answer : (out work : ℕ) → extraction_of s o out work ≡ loop_extraction page o out work
  unfolding extract.extraction_of extraction
  rust_answer out work = rw e (ap (λ (so : Sofar). concluded (work_need_of page o so.nodes) so.passes (serialized o so.nodes) out work) (sym walk.same))

pub demand_2 : Demand2
demand_2 = record {
  rust = λ s l o e. record { text = rust_text_law s l o e; answer = rust_answer s l o e; ends = (walk s l o e).ends };
  standards = sheet_is_tree;
  encoding = text_is_utf8;
}

-- ---- 3

pub demand_3 : Demand3
demand_3 = html2text.demand_3 filters
