-- Demand 3 of byte strings: an accepted extraction gives the text of a page that is right, and demand 3 of pages does the rest.
use mathlib.Core.Bool.{Bool}
use mathlib.Core.List.{List}
use Prim.Native.Nat.{ℕ}
use lib.Dec.{lit≤}
use Rattle.options.specs.declared.ExtractOptions.{ExtractOptions}
use Rattle.sheet.proofs.Acceptance.{accepts}
use Rattle.tree.specs.Node.{Node}
use Rattle.tree.specs.Page.{page_of}
use Rattle.html2text.specs.Demand3.{Demand3}
use Rattle.html2text.specs.Extract.{filtered_by}
use Rattle.html2text.proofs.AlikeSheets.{further_marks}
use Rattle.html2text.proofs.DemandLaws.{blanks_right, texts_are_pieces}
use Rattle.html2text.proofs.GivenLaws.{gives_text, gives_sheet}
use Rattle.html2text.proofs.PageLaws.{page_right}

module _ (filters : (ℕ → Node) → List ℕ → ℕ → ExtractOptions → ℕ → Bool) where
  pub demand_3 : Demand3 filters
  demand_3 s₁ o out₁ work₁ t₁ is_off g₁ =
      let sheet = gives_sheet filters g₁ in
      record {
        blanks = blanks_right (filtered_by filters) (page_of s₁ sheet.layout) o t₁ is_off (gives_text filters sheet.layout sheet.is_sheet g₁);
        pieces = λ s₂ out₂ work₂ t₂ g₂ l alike cells₁ cells₂.
            let marks = further_marks alike in
            let right₁ = page_right (accepts (lit≤ tt) alike.bytes.first).1 in
            let right₂ = page_right (accepts (lit≤ tt) alike.bytes.second).1 in
            texts_are_pieces (filtered_by filters) o (page_of s₁ l) (page_of s₂ l) marks (λ i. filters (marks.node i) (marks.depths i) l.root o) t₁ t₂ is_off right₁ right₂ cells₁ cells₂
            (gives_text filters l alike.bytes.first g₁) (gives_text filters l alike.bytes.second g₂);
      }
