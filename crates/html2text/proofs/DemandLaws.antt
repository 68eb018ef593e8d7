-- Demand 3 of pages: the blanks of a text with formatting Off, and that texts are the pieces of visible rows.
use mathlib.Core.Path.{◌≡◌, refl, sym, ap, ◌∙◌, subst, fun_ext}
use mathlib.Core.Bool.{Bool, true, false, ◌&&◌, ◌||◌, not, or-true}
use mathlib.Core.List.{[]}
use Prim.Native.Nat.{ℕ}
use Rattle.common.specs.Bytes.{Bytes}
use Rattle.options.specs.Options.{with_formatting}
use Rattle.options.specs.declared.ExtractOptions.{ExtractOptions}
use Rattle.options.specs.declared.Formatting.{Formatting}
use Rattle.options.specs.declared.Formatting.TheVariants.{Off}
use Rattle.text.specs.Text.{is_space, struck}
use Rattle.text.proofs.StruckLaws.{struck_rstrip}
use Rattle.tree.specs.Page.{Page}
use Rattle.html2text.specs.Demand.{BlanksRight, CellsRight, FurtherMarks, TextsArePieces, further_marked, visible_pieces}
use Rattle.html2text.specs.Extract.{going, serialized, hidden, entries}
use Rattle.html2text.specs.Pieces.{pieces, struck_pieces, without}
use Rattle.html2text.specs.Serialize.{State}
use Rattle.html2text.specs.Theorems.{PageRight}
use Rattle.html2text.specs.Walk.{events, tree_of}
use Rattle.html2text.proofs.BlankRuns.{blanks_of_calm}
use Rattle.html2text.proofs.CollectLaws.{plain_all}
use Rattle.html2text.proofs.ConditionLaws.{page_parents, page_cells}
use Rattle.html2text.proofs.FurtherPieces.{further, further_pieces}
use Rattle.html2text.proofs.GivenLaws.{TextOf}
use Rattle.html2text.proofs.LostStrip.{kept_pieces}
use Rattle.html2text.proofs.OffLaws.{off, Written, serialized_off}
use Rattle.common.proofs.TestLaws.{or_left}

off_same : (o : ExtractOptions) → o.formatting ≡ Off → o ≡ off o
off_same o e = ap (λ (f : Formatting). with_formatting f o) e

-- marked or filtered out in the second page: in the first, or a further mark
marks_further : (m m' f : Bool) → (m ≡ true → m' ≡ true) → (m' || f) ≡ ((m || f) || (m' && not m))
marks_further true m' f h = ap (λ (b : Bool). b || f) (h refl)
marks_further false true f h = sym (or-true f)
marks_further false false true h = refl
marks_further false false false h = refl

module _ (filtered : Page → ExtractOptions → ℕ → Bool) (p : Page) where
  abbrev hidden_rows : ExtractOptions → ℕ → Bool
  hidden_rows o = hidden (filtered p o) p o

  written : (o : ExtractOptions) (S : State) → serialized (off o) (entries (filtered p (off o)) p (off o)) ≡ going S → Written (entries (filtered p (off o)) p (off o)) S
  written o S e =
      serialized_off o (entries (filtered p (off o)) p (off o)) S (plain_all o [] (events p.node (hidden_rows (off o)) 0 (tree_of p)) tt) e

  blanks_off : (o : ExtractOptions) (t : Bytes) → TextOf filtered p (off o) t → BlanksRight t
  blanks_off o t x = rw x.text (blanks_of_calm x.state.out.text (written o x.state x.run).calm)

  pieces_off : (o : ExtractOptions) (t : Bytes) → PageRight p → CellsRight p → TextOf filtered p (off o) t → struck t ≡ struck_pieces (visible_pieces filtered p (off o))
  pieces_off o t right cells x =
      let h = hidden_rows (off o) in
      ap struck x.text
      ∙ struck_rstrip is_space x.state.out.text
      ∙ (written o x.state x.run).text
      ∙ kept_pieces p.node h (off o) (tree_of p) (page_cells p h (λ i e. or_left (p.marked i) _ e) cells) (page_parents p right)

  module _ (o : ExtractOptions) (t : Bytes) (is_off : o.formatting ≡ Off) (x : TextOf filtered p o t) where
    pub blanks_right : BlanksRight t
    blanks_right = blanks_off o t (subst (λ (q : ExtractOptions). TextOf filtered p q t) (off_same o is_off) x)

    pub text_is_pieces : PageRight p → CellsRight p → struck t ≡ struck_pieces (visible_pieces filtered p o)
    text_is_pieces right cells =
        let e = off_same o is_off in
        subst (λ (q : ExtractOptions). struck t ≡ struck_pieces (visible_pieces filtered p q)) (sym e)
        (pieces_off o t right cells (subst (λ (q : ExtractOptions). TextOf filtered p q t) e x))

-- two pages that differ in marks, which the filters are blind to
module _ (filtered : Page → ExtractOptions → ℕ → Bool) (o : ExtractOptions) (p₁ p₂ : Page) (marks : FurtherMarks p₁ p₂) (blind : filtered p₂ o ≡ filtered p₁ o) where
  hidden_further : hidden (filtered p₂ o) p₂ o ≡ further p₁.node (hidden (filtered p₁ o) p₁ o) (further_marked p₁ p₂) o
  hidden_further =
      fun_ext
      (λ i.
      ap (λ (f : ℕ → Bool). p₂.marked i || (o.main_content && f i)) blind
      ∙ marks_further (p₁.marked i) (p₂.marked i) (o.main_content && filtered p₁ o i) (marks.kept i))

  pieces_less : visible_pieces filtered p₂ o ≡ without (further_marked p₁ p₂) (visible_pieces filtered p₁ o)
  pieces_less =
      (λ i.
      pieces (marks.node i) (hidden_further i) o []
      (tree_of (record { depths = marks.depths i; node = marks.node i; marked = p₂.marked; root = marks.root i })))
      ∙ further_pieces p₁.node (hidden (filtered p₁ o) p₁ o) (further_marked p₁ p₂) o (tree_of p₁) [] refl

  pub texts_are_pieces : (t₁ t₂ : Bytes) → o.formatting ≡ Off → PageRight p₁ → PageRight p₂ → CellsRight p₁ → CellsRight p₂ → TextOf filtered p₁ o t₁ → TextOf filtered p₂ o t₂
      → TextsArePieces filtered o p₁ p₂ t₁ t₂
  texts_are_pieces t₁ t₂ is_off right₁ right₂ cells₁ cells₂ x₁ x₂ =
      let second = text_is_pieces filtered p₂ o t₂ is_off x₂ right₂ cells₂ in
      record {
        first = text_is_pieces filtered p₁ o t₁ is_off x₁ right₁ cells₁;
        second = second;
        second_less = second ∙ ap struck_pieces pieces_less;
      }
