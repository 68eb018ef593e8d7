-- With further rows left out, the pieces are those before less the ones at and under these rows.
use mathlib.Core.Path.{◌≡◌, refl, sym, ap, ◌∙◌}
use mathlib.Core.Bool.{Bool, true, false, ◌||◌, cond, or-false}
use mathlib.Core.List.{List, [], ◌∷◌, ◌++◌}
use Prim.Native.Nat.{ℕ}
use Rattle.common.specs.Bytes.{Bytes}
use Rattle.options.specs.declared.ExtractOptions.{ExtractOptions}
use Rattle.tree.specs.Forest.{Forest, empty, node, has_trees}
use Rattle.tree.specs.Node.{Node}
use Rattle.html2text.specs.Pieces.{Piece, row_pieces, along, pieces, any_of, without}
use Rattle.html2text.specs.Walk.{is_comment, left_out}
use Rattle.common.proofs.TestLaws.{or_left, or_right}

module _ (test : ℕ → Bool) where
  without_append : (a b : List Piece) → without test (a ++ b) ≡ without test a ++ without test b
  unfolding without
  without_append [] b = refl
  without_append (p ∷ a) b = go (any_of test p.path) (without_append a b)
    where
      go : (c : Bool) → without test (a ++ b) ≡ without test a ++ without test b
          → cond c (without test (a ++ b)) (p ∷ without test (a ++ b)) ≡ cond c (without test a) (p ∷ without test a) ++ without test b
      go true h = h
      go false h = ap (λ (u : List Piece). p ∷ u) h

  without_along_in : (path : List ℕ) (bs : List Bytes) → any_of test path ≡ true → without test (along path bs) ≡ []
  unfolding without
  without_along_in path [] h = refl
  without_along_in path (b ∷ bs) h = rw h (without_along_in path bs h)

  without_along_out : (path : List ℕ) (bs : List Bytes) → any_of test path ≡ false → without test (along path bs) ≡ along path bs
  unfolding without
  without_along_out path [] h = refl
  without_along_out path (b ∷ bs) h = rw h (ap (λ (u : List Piece). record { path = path; bytes = b } ∷ u) (without_along_out path bs h))

  without_cond : (b : Bool) (ps qs : List Piece) → without test (cond b ps qs) ≡ cond b (without test ps) (without test qs)
  without_cond true ps qs = refl
  without_cond false ps qs = refl

-- the pieces of a row, its own, those below and those at its end, and of what follows it
abbrev laid : Bool → List Piece → List Piece → Bool → List Piece → List Piece → List Piece
laid b A K c B R = cond b [] (A ++ (K ++ cond c B [])) ++ R

without_laid : (test : ℕ → Bool) (b : Bool) (A K : List Piece) (c : Bool) (B R : List Piece)
    → without test (laid b A K c B R) ≡ laid b (without test A) (without test K) c (without test B) (without test R)
unfolding without
without_laid test b A K c B R = simp (without_append, without_cond)

laid_rest : (b c : Bool) (R : List Piece) → laid b [] [] c [] R ≡ R
laid_rest true c R = refl
laid_rest false true R = refl
laid_rest false false R = refl

module _ (node_of : ℕ → Node) (hidden more : ℕ → Bool) (o : ExtractOptions) where
  -- hidden, and the further ones
  abbrev pub further : ℕ → Bool
  further i = hidden i || more i

  abbrev own : ℕ → List ℕ → Bool → List Piece
  own i up end = along (i ∷ up) (row_pieces o (node_of i) end)

  -- below a further row nothing stays
  all_gone : (f : Forest ℕ) (up : List ℕ) → any_of more up ≡ true → without more (pieces node_of hidden o up f) ≡ []
  unfolding pieces without
  all_gone empty up h = refl
  all_gone (node i children rest) up h =
      let g : any_of more (i ∷ up) ≡ true = or_right (more i) (any_of more up) h in
      let gone : (end : Bool) → without more (own i up end) ≡ [] = λ end. without_along_in more (i ∷ up) (row_pieces o (node_of i) end) g in
      let b = left_out node_of hidden i in
      let c = has_trees children in
      without_laid more b (own i up false) (pieces node_of hidden o (i ∷ up) children) c (own i up true) (pieces node_of hidden o up rest)
      ∙ (λ j. laid b (gone false j) (all_gone children (i ∷ up) g j) c (gone true j) (all_gone rest up h j))
      ∙ laid_rest b c []

  pub further_pieces : (f : Forest ℕ) (up : List ℕ) → any_of more up ≡ false → pieces node_of further o up f ≡ without more (pieces node_of hidden o up f)
  unfolding pieces without
  further_pieces empty up h = refl
  further_pieces (node i children rest) up h = go (more i) refl (further_pieces rest up h) (further_pieces children (i ∷ up))
    where
      b : Bool
      b = left_out node_of hidden i

      c : Bool
      c = has_trees children

      below : List Piece
      below = pieces node_of hidden o (i ∷ up) children

      later : List Piece
      later = pieces node_of hidden o up rest

      go : (m : Bool) → more i ≡ m → pieces node_of further o up rest ≡ without more later
          → (any_of more (i ∷ up) ≡ false → pieces node_of further o (i ∷ up) children ≡ without more below)
          → pieces node_of further o up (node i children rest) ≡ without more (pieces node_of hidden o up (node i children rest))
      go true e ih_rest ih_children =
          let g : any_of more (i ∷ up) ≡ true = or_left (more i) (any_of more up) e in
          let gone : (end : Bool) → without more (own i up end) ≡ [] = λ end. without_along_in more (i ∷ up) (row_pieces o (node_of i) end) g in
          let out : left_out node_of further i ≡ true = or_right (is_comment (node_of i).kind) (further i) (or_right (hidden i) (more i) e) in
          (λ j. laid (out j) (own i up false) (pieces node_of further o (i ∷ up) children) c (own i up true) (pieces node_of further o up rest))
          ∙ ih_rest
          ∙ sym
          (without_laid more b (own i up false) below c (own i up true) later
          ∙ (λ j. laid b (gone false j) (all_gone children (i ∷ up) g j) c (gone true j) (without more later))
          ∙ laid_rest b c (without more later))
      go false e ih_rest ih_children =
          let g : any_of more (i ∷ up) ≡ false = rw e h in
          let stays : (end : Bool) → own i up end ≡ without more (own i up end) = λ end. sym (without_along_out more (i ∷ up) (row_pieces o (node_of i) end) g) in
          let out : left_out node_of further i ≡ b = ap (λ (m : Bool). is_comment (node_of i).kind || (hidden i || m)) e ∙ ap (λ (m : Bool). is_comment (node_of i).kind || m) (or-false (hidden i)) in
          (λ j. laid (out j) (stays false j) (ih_children g j) c (stays true j) (ih_rest j))
          ∙ sym (without_laid more b (own i up false) below c (own i up true) later)
