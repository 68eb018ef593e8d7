-- A link is an element, and has no data of its own.
use Rattle.std.proofs.Common.{◌≡◌, ℕ, true, false, [], sym, ◌∙◌, arith}
use Rattle.common.specs.Bytes.{codes, same}
use Rattle.common.proofs.Choice.{absurd_test}
use Rattle.tree.specs.Node.{element, text, Node}
use Rattle.tree.specs.TextContent.{text_data}
use Rattle.tree.proofs.NodeLaws.{by_kind, tag_of_element, tag_of_other}
use Rattle.tree.proofs.TextLaws.{data_of_other}
use Rattle.links.specs.Links.{is_link}

module _ (n : Node) where
  pub link_of_element : n.kind ≡ element → is_link n ≡ same n.name (codes "a")
  unfolding is_link
  link_of_element e = rw (tag_of_element n e)

  pub link_of_other : (n.kind ≡ element → ⊥) → is_link n ≡ false
  unfolding is_link same codes
  link_of_other h = rw (tag_of_other n h)

  other_kind : {A : Type 0} → text ≡ element → A
  other_kind e = let z : ◌≡◌ {A = ℕ} 0 1 = cc in absurd (omega arith)

  pub link_element : is_link n ≡ true → n.kind ≡ element
  link_element t =
      by_kind n.kind (λ e. e)
      (λ e. absurd_test t (link_of_other (λ q. other_kind (sym e ∙ q))))
      (λ e. absurd_test t (link_of_other (λ q. let z : ◌≡◌ {A = ℕ} 0 1 = cc in omega arith)))

  pub link_no_data : is_link n ≡ true → text_data n ≡ []
  link_no_data t = data_of_other n (λ q. other_kind (sym q ∙ link_element t))
