-- Document 02, CR 4, over every page: an absent alt reads as an empty one with missing_alt off, as "[picture]" with it on, and the option
-- does nothing else.
use Rattle.std.specs.Prelude.{◌≡◌, Bool, false, ◌&&◌, not, cond, [], ◌∷◌, ℕ}
use Rattle.common.specs.Bytes.{Bytes, codes}
use Rattle.options.specs.Options.{with_missing_alt}
use Rattle.options.specs.declared.ExtractOptions.{ExtractOptions}
use Rattle.tags.specs.Words.{one_of, words}
use Rattle.tree.specs.Node.{Node, tag, attribute, is_there}
use Rattle.tree.specs.Page.{Page}
use Rattle.html2text.specs.Collect.{attr, missing_alt, alt_text}
use Rattle.html2text.specs.Escapes.{escaped_length}
use Rattle.html2text.specs.Extract.{hidden, extraction, out_after, work_after}
use Rattle.html2text.specs.Pieces.{pieces}
use Rattle.html2text.specs.Walk.{tree_of}

-- "an img or area with no alt attribute"
abbrev pub lacks_alt : Node → Bool
lacks_alt n = one_of (tag n) (words "img area") && not (is_there (attribute n.attributes (codes "alt")))

-- a page with that alt written into each of them
abbrev pub with_alt : Bytes → Node → Node
with_alt alt n =
    record {
      kind = n.kind;
      name = n.name;
      value = n.value;
      attributes = cond (lacks_alt n) (record { name = codes "alt"; value = alt } ∷ n.attributes) n.attributes;
    }

abbrev pub alt_written : Bytes → Page → Page
alt_written alt p = record { depths = p.depths; node = λ i. with_alt alt (p.node i); marked = p.marked; root = p.root }

-- two pages under two options, of which the filter leaves out `f` and `g`, give the same: answers, both buffers, pieces, and the count of
-- bytes that are escaped
pub record GiveTheSame (f : ℕ → Bool) (p : Page) (o : ExtractOptions) (g : ℕ → Bool) (q : Page) (r : ExtractOptions) : Type 0 where
  pub answer : (out work : ℕ) → extraction f p o out work ≡ extraction g q r out work
  pub out : (out work : Bytes) → out_after f p o out work ≡ out_after g q r out work
  pub work : (work : Bytes) → work_after f p o work ≡ work_after g q r work
  pub pieces : pieces p.node (hidden f p o) o [] (tree_of p) ≡ pieces q.node (hidden g q r) r [] (tree_of q)
  pub count : escaped_length f p o ≡ escaped_length g q r

-- `filtered`: whichever rows the filter leaves out, the same of both
pub record MissingAltRight : Type 0 where
  -- "With it off all texts are unchanged": what an img or area adds is `attr(node, "alt")`
  pub off : (o : ExtractOptions) (n : Node) → o.missing_alt ≡ false → alt_text o n ≡ attr n (codes "alt")
  -- "written wherever an alt would be", "an empty alt stays silent": as if it were written in, and then the option has no say
  pub written : (filtered : ℕ → Bool) (p : Page) (o : ExtractOptions) (on other : Bool)
      → GiveTheSame filtered p (with_missing_alt on o) filtered (alt_written (missing_alt on) p) (with_missing_alt other o)
  -- "when alt_texts is on"
  pub without : (filtered : ℕ → Bool) (p : Page) (o : ExtractOptions) (on other : Bool) → o.alt_texts ≡ false
      → GiveTheSame filtered p (with_missing_alt on o) filtered p (with_missing_alt other o)
