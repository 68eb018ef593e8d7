-- `collect`: of two runs of events, and what one event does to the last entry.
use mathlib.Core.Path.{◌≡◌, refl, sym, ap, ◌∙◌}
use mathlib.Core.Bool.{Bool, true, false, ◌&&◌, ◌||◌, cond}
use mathlib.Core.List.{List, [], ◌∷◌, ◌++◌, append-nil, append_assoc}
use Prim.Native.Nat.{ℕ, ◌<◌}
use lib.Dec.{ltb}
use borrow.Author.Tests.{lt-ltb}
use Rattle.common.specs.Bytes.{Bytes}
use Rattle.common.proofs.Choice.{by_cond, absurd_test}
use Rattle.options.specs.declared.ExtractOptions.{ExtractOptions}
use Rattle.tags.specs.Tags.{is_block_tag, is_cell, is_textarea}
use Rattle.text.specs.Text.{is_space, struck_by, struck}
use Rattle.text.proofs.StruckLaws.{struck_append}
use Rattle.html2text.specs.Collect.{Event, Entry, tag_number, is_link, pushes, pushed, added, amended, on_last, collect, collect_all}
use Rattle.html2text.proofs.OffLaws.{off, is_cell_end, kept, Plain}
use Rattle.common.proofs.TestLaws.{or_left, or_right}
use Rattle.html2text.proofs.SaidLaws.{said, added_said}

pub collect_all_append : (o : ExtractOptions) (es : List Entry) (a b : List Event) → collect_all o es (a ++ b) ≡ collect_all o (collect_all o es a) b
unfolding collect_all
collect_all_append o es [] b = refl
collect_all_append o es (e ∷ a) b = collect_all_append o (collect o es e) a b

-- ---- the last entry: whether it is a cell's end, and its depth

abbrev pub lost : List Entry → Bool
lost [] = false
lost (n ∷ before) = is_cell_end n.node

abbrev pub depth_of : List Entry → ℕ
depth_of [] = 0
depth_of (n ∷ before) = n.node.depth

module _ (o : ExtractOptions) (es : List Entry) (e : Event) where
  pub collect_pushed : pushes o es e ≡ true → collect o es e ≡ amended o e (pushed o es e) ∷ es
  unfolding collect
  collect_pushed h = rw h

  pub lost_pushed : pushes o es e ≡ true → lost (collect o es e) ≡ (is_cell (tag_number e.node) && e.end)
  lost_pushed h = ap lost (collect_pushed h)

  pub depth_pushed : pushes o es e ≡ true → depth_of (collect o es e) ≡ e.depth
  depth_pushed h = ap depth_of (collect_pushed h)

  pub collect_stayed : pushes o es e ≡ false → collect o es e ≡ on_last (amended o e) es
  unfolding collect
  collect_stayed h = rw h

  pub lost_stayed : pushes o es e ≡ false → lost (collect o es e) ≡ lost es
  lost_stayed h = ap lost (collect_stayed h) ∙ same es
    where
      same : (ns : List Entry) → lost (on_last (amended o e) ns) ≡ lost ns
      same [] = refl
      same (n ∷ ns) = refl

  pub depth_stayed : pushes o es e ≡ false → depth_of (collect o es e) ≡ depth_of es
  depth_stayed h = ap depth_of (collect_stayed h) ∙ same es
    where
      same : (ns : List Entry) → depth_of (on_last (amended o e) ns) ≡ depth_of ns
      same [] = refl
      same (n ∷ ns) = refl

-- ---- which events push

pub block_pushes : (o : ExtractOptions) (es : List Entry) (e : Event) → is_block_tag (tag_number e.node) ≡ true → pushes o es e ≡ true
block_pushes o [] e h = refl
block_pushes o (n ∷ es) e h =
    let t = tag_number e.node in
    or_left (is_block_tag t || ltb e.depth n.node.depth) _ (or_left (is_block_tag t) (ltb e.depth n.node.depth) h)

pub deep_pushes : (o : ExtractOptions) (es : List Entry) (e : Event) → e.depth < depth_of es → pushes o es e ≡ true
deep_pushes o [] e h = refl
deep_pushes o (n ∷ es) e h =
    let t = tag_number e.node in
    or_left (is_block_tag t || ltb e.depth n.node.depth) _ (or_right (is_block_tag t) (ltb e.depth n.node.depth) (lt-ltb e.depth n.node.depth h))

pub cell_pushes : (o : ExtractOptions) (es : List Entry) (e : Event) → is_cell (tag_number e.node) ≡ true → pushes o es e ≡ true
cell_pushes o [] e h = refl
cell_pushes o (n ∷ es) e h =
    let t = tag_number e.node in
    or_right (is_block_tag t || ltb e.depth n.node.depth) _ (or_right (is_link o t) _ (or_right (is_textarea t) (is_cell t) h))

-- ---- with formatting Off

split_cond : (c : Bool) (k u w : Bytes) → k ++ cond c [] (u ++ w) ≡ (k ++ cond c [] u) ++ cond c [] w
split_cond true k u w = sym (append-nil (k ++ []))
split_cond false k u w = sym (append_assoc k u w)

module _ (o : ExtractOptions) where
  kept_amended : (e : Event) (n : Entry) (before : List Entry)
      → kept (amended (off o) e n ∷ before) ≡ kept (n ∷ before) ++ cond (is_cell_end n.node) [] (said o e.node e.end)
  unfolding kept
  kept_amended e n before =
      let more = added (off o) e.node e.end n.node.tag in
      ap (λ (u : Bytes). kept before ++ cond (is_cell_end n.node) [] u)
      (struck_append is_space n.text more ∙ ap (λ (u : Bytes). struck n.text ++ u) (added_said o e.node e.end n.node.tag))
      ∙ split_cond (is_cell_end n.node) (kept before) (struck n.text) (said o e.node e.end)

  kept_pushed : (es : List Entry) (e : Event) → kept (pushed (off o) es e ∷ es) ≡ kept es
  unfolding kept struck_by
  kept_pushed es e =
      by_cond (λ (u : Bytes). kept es ++ u ≡ kept es) (is_cell (tag_number e.node) && e.end) (λ h. append-nil (kept es)) (λ h. append-nil (kept es))

  -- what an event says is lost where the last entry is then a cell's end
  pub kept_collect : (es : List Entry) (e : Event) → kept (collect (off o) es e) ≡ kept es ++ cond (lost (collect (off o) es e)) [] (said o e.node e.end)
  unfolding collect
  kept_collect es e = go (pushes (off o) es e) refl
    where
      new : Entry
      new = pushed (off o) es e

      w : Bytes
      w = said o e.node e.end

      stayed : (ns : List Entry) → pushes (off o) ns e ≡ false → kept (on_last (amended (off o) e) ns) ≡ kept ns ++ cond (lost (on_last (amended (off o) e) ns)) [] w
      stayed [] h = absurd_test refl h
      stayed (n ∷ ns) h = kept_amended e n ns

      go : (b : Bool) → pushes (off o) es e ≡ b
          → kept (on_last (amended (off o) e) (cond b (new ∷ es) es)) ≡ kept es ++ cond (lost (on_last (amended (off o) e) (cond b (new ∷ es) es))) [] w
      go true h = kept_amended e new es ∙ ap (λ (u : Bytes). u ++ cond (is_cell_end new.node) [] w) (kept_pushed es e)
      go false h = stayed es h

  -- ---- all entries are plain

  plain_amended : (e : Event) (es : List Entry) → Plain es → Plain (on_last (amended (off o) e) es)
  plain_amended e [] h = tt
  plain_amended e (n ∷ es) h = (rw h.0, h.1)

  plain_collect : (es : List Entry) (e : Event) → Plain es → Plain (collect (off o) es e)
  unfolding collect
  plain_collect es e h =
      by_cond (λ (ns : List Entry). Plain (on_last (amended (off o) e) ns)) (pushes (off o) es e)
      (λ q. plain_amended e (pushed (off o) es e ∷ es) (refl, h)) (λ q. plain_amended e es h)

  pub plain_all : (es : List Entry) (events : List Event) → Plain es → Plain (collect_all (off o) es events)
  unfolding collect_all
  plain_all es [] h = h
  plain_all es (e ∷ events) h = plain_all (collect (off o) es e) events (plain_collect es e h)
