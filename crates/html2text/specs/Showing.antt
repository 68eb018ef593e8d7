-- The text of an entry shown piece by piece, as `collect` adds to it: all that `serialize` does before the text is known when the entry is
-- pushed, and what a piece shows depends on whether anything was shown before and on the last byte.
use Rattle.std.specs.Prelude.{◌≡◌, Bool, true, false, ◌&&◌, ◌||◌, not, cond, [], ◌++◌}
use Rattle.common.specs.Bytes.{Bytes, is_empty}
use Rattle.options.specs.Options.{is_off, is_basic}
use Rattle.options.specs.declared.ExtractOptions.{ExtractOptions}
use Rattle.options.specs.declared.Formatting.{Formatting}
use Rattle.options.specs.declared.Formatting.TheVariants.{Off, Basic, MinimalHtml}
use Rattle.tags.specs.Tags.{is_cell}
use Rattle.text.specs.Text.{is_space, space_after}
use Rattle.writer.specs.Out.{push_all}
use Rattle.writer.specs.Shown.{shown}
use Rattle.html2text.specs.Collect.{Event, tag_number, pushed_node, marked, added}
use Rattle.html2text.specs.Fused.{Fused, closed, emptied, pushes_on, fed}
use Rattle.html2text.specs.Serialize.{State, on_out, with_uncollapsed, collapses, margin, rows, cell, count_uncollapsed, level, html_marks, block_after_tag, trims, shortened, lead, step}
use Rattle.html2text.specs.declared.ExtractNode.{ExtractNode}
use Rattle.html2text.specs.declared.Showing.{Showing}

-- ---- a piece

-- whether anything of a piece is left once it is shortened
abbrev pub shows_any : Showing → Bytes → Bool
shows_any w piece = not (is_empty (shortened w.squeeze w.space piece))

-- whether a piece changes nothing
abbrev pub is_silent : Showing → Bytes → Bool
is_silent w piece = w.dropped || (w.empty && not (shows_any w piece))

-- nothing of a dropped entry is shown, and nothing of its text is looked at
unfoldable pub showing_after : Showing → Bytes → Showing
showing_after w piece =
    cond w.dropped w
    (record {
      dropped = w.dropped;
      squeeze = w.squeeze;
      escapes = w.escapes;
      empty = w.empty && not (shows_any w piece);
      space = space_after is_space w.space piece;
    })

module _ (f : Formatting) (bullets : Bool) where
  -- what stands before the first byte that is shown
  unfoldable pub lead_in : Showing → State → State
  lead_in w S = cond w.empty (lead (is_basic f) bullets (with_uncollapsed 0 (margin w.squeeze (is_off f) S))) S

  unfoldable pub show_piece : Showing → Bytes → State → State
  show_piece w piece S =
      cond (is_silent w piece) S (on_out (push_all (shown w.squeeze w.space w.escapes piece)) (lead_in w S))

-- ---- an entry

-- `n.block` where its text is put; S is the state behind rows and cells
abbrev pub block_shown : Formatting → Bool → ExtractNode → State → Bool
block_shown Off bullets n S = n.block
block_shown Basic bullets n S = n.block
block_shown MinimalHtml bullets n S = block_after_tag bullets n (html_marks bullets n (level n (count_uncollapsed n S))).uncollapsed

abbrev pub dropped_showing : Showing
dropped_showing = record { dropped = true; squeeze = false; escapes = false; empty = true; space = false }

-- how the text of an entry is shown, where `serialize` stands at S before it
unfoldable pub showing_of : Formatting → Bool → ExtractNode → State → Showing
showing_of f bullets n S =
    cond (is_cell n.tag && n.end) dropped_showing
    (record {
      dropped = false;
      squeeze = collapses (is_off f) n;
      escapes = n.escape;
      empty = true;
      space = trims (block_shown f bullets n (cell (is_off f) n (rows n S))) (step f bullets n [] S);
    })

-- what is to be shown: a step is a step without a text, and then its text; and pieces follow each other
pub record ShownInPieces (f : Formatting) (bullets : Bool) : Type 0 where
  pub step_is : (n : ExtractNode) (text : Bytes) (S : State) → step f bullets n text S ≡ show_piece f bullets (showing_of f bullets n S) text (step f bullets n [] S)
  pub none : (w : Showing) (S : State) → show_piece f bullets w [] S ≡ S
  pub after_none : (w : Showing) → showing_after w [] ≡ w
  pub append : (w : Showing) (a b : Bytes) (S : State) → show_piece f bullets w (a ++ b) S ≡ show_piece f bullets (showing_after w a) b (show_piece f bullets w a S)
  pub after_append : (w : Showing) (a b : Bytes) → showing_after w (a ++ b) ≡ showing_after (showing_after w a) b

-- ---- the open entry of a fused run

module _ (o : ExtractOptions) where
  -- the entry that an event pushes, before its text
  unfoldable pub begun : Event → Fused → Fused
  begun e F =
      record {
        any = true;
        row = e.row;
        node = marked o (tag_number e.node) (pushed_node o F.node.pre_depth e);
        note = emptied o F.note;
        run = closed o F;
      }

  -- the open entry with more text
  abbrev pub said_more : Bytes → Fused → Fused
  said_more s F = record { any = F.any; row = F.row; node = F.node; note = push_all s F.note; run = F.run }

  -- what is to be shown of an event: it opens an entry or not, and then adds to the open one
  pub record FedInTwo (e : Event) (F : Fused) : Type 0 where
    pub opens : pushes_on o F e ≡ true → fed o e F ≡ said_more (added o e.node e.end (begun e F).node.tag) (begun e F)
    pub grows : pushes_on o F e ≡ false → fed o e F ≡ said_more (added o e.node e.end F.node.tag) F
