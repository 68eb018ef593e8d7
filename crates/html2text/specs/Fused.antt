-- `collect` touches only the last entry, so that `serialize` can take each entry when the next one is pushed: the open entry, its text, and
-- the run of `serialize` over the entries before it. `note` has the greatest length of any entry's text beside the open one's text.
use Rattle.std.specs.Prelude.{◌≡◌, Bool, true, false, ◌||◌, not, cond, List, [], ◌∷◌, ℕ}
use Rattle.options.specs.declared.ExtractOptions.{ExtractOptions}
use Rattle.writer.specs.Out.{Out, nothing, push_all}
use Rattle.html2text.specs.Collect.{Event, Entry, tag_number, pushes_after, pushed_node, marked, added, collect_all}
use Rattle.html2text.specs.Extract.{Run, going, taken, serialized, longest_text}
use Rattle.html2text.specs.Serialize.{start}
use Rattle.html2text.specs.declared.ExtractNode.{ExtractNode}

abbrev pub no_node : ExtractNode
no_node = record { tag = 0; has_children = false; depth = 0; pre_depth = 0; collapse_margins = false; block = false; big_block = false; end = false; escape = false }

-- `any`: whether an entry is open
pub record Fused : Type 0 where
  pub any : Bool
  pub row : ℕ
  pub node : ExtractNode
  pub note : Out
  pub run : Run

abbrev pub idle : Fused
idle = record { any = false; row = 0; node = no_node; note = nothing; run = going start }

module _ (o : ExtractOptions) where
  abbrev pub open_entry : Fused → Entry
  open_entry F = record { row = F.row; node = F.node; text = F.note.text }

  -- the open entry goes to `serialize`
  unfoldable pub closed : Fused → Run
  closed F = cond F.any (taken o.formatting o.list_bullets (open_entry F) F.run) F.run

  abbrev pub pushes_on : Fused → Event → Bool
  pushes_on F e = not F.any || pushes_after o F.node.depth (tag_number e.node) e.depth

  -- the text of a new entry starts empty; the greatest length stays
  abbrev pub emptied : Out → Out
  emptied n = record { text = []; peak = n.peak }

  unfoldable pub opened : Event → Fused → Fused
  opened e F =
      let t = tag_number e.node in
      record {
        any = true;
        row = e.row;
        node = marked o t (pushed_node o F.node.pre_depth e);
        note = push_all (added o e.node e.end t) (emptied F.note);
        run = closed F;
      }

  unfoldable pub grown : Event → Fused → Fused
  grown e F =
      record {
        any = F.any;
        row = F.row;
        node = marked o (tag_number e.node) F.node;
        note = push_all (added o e.node e.end F.node.tag) F.note;
        run = F.run;
      }

  unfoldable pub fed : Event → Fused → Fused
  fed e F = cond (pushes_on F e) (opened e F) (grown e F)

  unfoldable pub fed_all : List Event → Fused → Fused
  fed_all [] F = F
  fed_all (e ∷ es) F = fed_all es (fed e F)

-- what is to be shown
pub record Fusion (o : ExtractOptions) (es : List Event) : Type 0 where
  pub run : closed o (fed_all o es idle) ≡ serialized o (collect_all o [] es)
  pub need : (fed_all o es idle).note.peak ≡ longest_text (collect_all o [] es)
