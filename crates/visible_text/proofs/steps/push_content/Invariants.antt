-- `push_content` meets its contract.
use mathlib.Core.List.{List}
use Prim.Native.Nat.{ℕ, ◌+◌}
use Rattle.sheet.specs.Layout.{depths}
use Rattle.text.specs.Text.{is_ascii_whitespace}
use Rattle.tree.specs.Node.{Node}
use Rattle.tree.specs.Page.{node_at}
use Rattle.tree.proofs.TextLaws.{text_below}
use Rattle.writer.specs.Out.{Out, push_all}
use Rattle.visible_text.proofs.LeftLaws.{Left}
use Rattle.visible_text.proofs.steps.push_content.Given as goal

-- what is left of the text from row j on
abbrev pub rest : (ℕ → Node) → List ℕ → ℕ → ℕ → Out → Out
rest node_of depths d j = push_all (text_below node_of depths d j)

abbrev pub invariant-loop-j : goal.invariant-loop-j
invariant-loop-j l =
    Left is_ascii_whitespace l.write l.initial.q l.initial.out (rest (node_at l.s l.l) (depths l.s l.l) l.d (l.i + 1)) l.q l.out (rest (node_at l.s l.l) (depths l.s l.l) l.d l.j)
