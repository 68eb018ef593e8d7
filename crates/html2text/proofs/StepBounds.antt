-- How far a step can raise the numbers of a state, and the greatest length of what is written.
use mathlib.Core.Path.{◌≡◌, refl}
use mathlib.Core.Bool.{Bool, true, false, ◌&&◌, ◌||◌, not, cond}
use mathlib.Core.List.{List, [], ◌∷◌, ◌++◌}
use Prim.Native.Nat.{ℕ, zero, suc, ◌+◌, ◌-◌, ◌*◌, ◌≤◌, ◌<◌}
use native.Mathlib.Omega.{arith}
use lib.Dec.{eqb, leb, ltb}
use lib.ListN.{length, get_or, take, set, replicate, length-append, length-replicate}
use borrow.Author.Tests.{leb-true}
use Rattle.common.specs.Bytes.{Bytes, codes, is_empty}
use Rattle.common.proofs.Choice.{by_cond, and_parts}
use Rattle.options.specs.Options.{is_off}
use Rattle.options.specs.declared.Formatting.{Formatting}
use Rattle.options.specs.declared.Formatting.TheVariants.{Off, Basic, MinimalHtml}
use Rattle.tags.specs.Tags.{name_of, tag_names, is_tr, is_cell, is_ol, is_list, is_li, is_pre, is_br}
use Rattle.tags.specs.Words.{words, first_word, other_words}
use Rattle.text.specs.Text.{is_space, collapse, escape}
use Rattle.text.proofs.CollapseLaws.{collapse_length}
use Rattle.text.proofs.EscapeLaws.{escape_length}
use Rattle.text.proofs.TrimLaws.{trim_start_length}
use Rattle.writer.specs.Digits.{digits}
use Rattle.writer.specs.Out.{Out, greater, push_all}
use Rattle.writer.proofs.CostLaws.{Costs, costs_none, costs_push_all, costs_strip, costs_then}
use Rattle.writer.proofs.DigitsLaws.{digits_length}
use Rattle.writer.proofs.OutLaws.{greater_max}
use Rattle.html2text.specs.Serialize.{State, one, on_out, with_prefix, with_levels, with_margins, with_uncollapsed, pop, ends_blank, collapses, separated, margin_out, margin, rows, between, beside_cell, in_row, cell, count_uncollapsed, changes_level, level, number_of, number_text, item, item_out, html_item, html_pre, html_br, html_marks, wants_tag, opens_tag, tag_margins, before_tag, tag_out, html_tag, block_after_marks, block_after_tag, block_margin, trims, shortened, indent_text, lead, put_text, after_off, after_basic, finish_html, after_html, step_by, after, step}
use Rattle.html2text.specs.declared.ExtractNode.{ExtractNode}

-- ---- what is written

costs_more : {F : Out → Out} {c d : ℕ} → c ≤ d → Costs F c → Costs F d
costs_more h a = record { below = a.below; most = λ o l. omega (arith, a.most o l) }

costs_if : {F G : Out → Out} {c : ℕ} (b : Bool) → Costs F c → Costs G c → Costs (λ o. cond b (F o) (G o)) c
costs_if true f g = f
costs_if false f g = g

-- where the test reads what is written
costs_by : {F G : Out → Out} {c : ℕ} (b : Out → Bool) → Costs F c → Costs G c → Costs (λ o. cond (b o) (F o) (G o)) c
costs_by {F} {G} {c} b f g =
    record {
      below = λ o h. by_cond (λ (p : Out). length p.text ≤ p.peak) (b o) (λ e. f.below o h) (λ e. g.below o h);
      most = λ o h. by_cond (λ (p : Out). p.peak ≤ o.peak + c) (b o) (λ e. f.most o h) (λ e. g.most o h);
    }

costs_none_of : (c : ℕ) → Costs (λ o. o) c
costs_none_of c = costs_more (omega arith) costs_none

costs_write : (s : Bytes) (c : ℕ) → length s ≤ c → Costs (push_all s) c
costs_write s c h = costs_more h (costs_push_all s)

costs_separated : (off : Bool) (size : ℕ) → Costs (separated off size) (size + 1)
unfolding separated
costs_separated off size =
    costs_by (λ o. eqb (length o.text) 0) (costs_none_of (size + 1))
    (costs_write (cond off (0x20 ∷ []) (replicate size 0x0a)) (size + 1) (by_cond (λ (s : Bytes). length s ≤ size + 1) off (λ e. omega arith) (λ e. omega (arith, length-replicate {A = ℕ} size 0x0a))))

costs_margin : (bare off : Bool) (size : ℕ) → Costs (margin_out bare off size) (size + 1)
unfolding margin_out
costs_margin bare off size =
    costs_if (eqb size 0) (costs_none_of (size + 1))
    (costs_more (omega arith) (costs_then (costs_if bare (costs_strip is_space) costs_none) (costs_separated off size)))

costs_between : (off : Bool) → Costs (between off) 2
unfolding between codes
costs_between off =
    costs_if off (costs_by (λ o. eqb (length o.text) 0 || ends_blank o.text) (costs_none_of 2) (costs_write (0x20 ∷ []) 2 (omega arith)))
    (costs_push_all (codes "\t\t"))

costs_spaces : (k : ℕ) → Costs (push_all (replicate k 0x20)) k
costs_spaces k = costs_write (replicate k 0x20) k (omega (arith, length-replicate {A = ℕ} k 0x20))

costs_item : (end bare : Bool) (depth : ℕ) → Costs (item_out end bare depth) (2 * depth + 6)
unfolding item_out codes
costs_item end bare depth =
    costs_if end (costs_more (omega arith) (costs_then (costs_if bare (costs_strip is_space) costs_none) (costs_push_all (codes "</li>\n"))))
    (costs_more (omega arith) (costs_then (costs_spaces (depth * 2)) (costs_push_all (codes "<li>"))))

-- the names that are told apart have at most ten letters
abbrev no_longer : ℕ → List Bytes → Bool
no_longer k [] = true
no_longer k (w ∷ ws) = leb (length w) k && no_longer k ws

no_longer_law : (k : ℕ) (ws : List Bytes) → no_longer k ws ≡ true → (i : ℕ) → length (get_or ws i []) ≤ k
no_longer_law k [] e i = omega arith
no_longer_law k (w ∷ ws) e zero = leb-true (length w) k (and_parts (leb (length w) k) (no_longer k ws) e).0
no_longer_law k (w ∷ ws) e (suc i) = no_longer_law k ws (and_parts (leb (length w) k) (no_longer k ws) e).1 i

name_length : (t : ℕ) → length (name_of t) ≤ 10
unfolding name_of tag_names words first_word other_words codes
name_length t = no_longer_law 10 tag_names refl (t - 1)

costs_tag : (bullets : Bool) (n : ExtractNode) (depth : ℕ) → Costs (tag_out bullets n depth) (2 * depth + 14)
unfolding tag_out codes
costs_tag bullets n depth =
    costs_more (omega arith)
    (costs_then (costs_if bullets (costs_more fewer (costs_spaces ((depth - one (is_list n.tag && not n.end)) * 2))) (costs_none_of (2 * depth)))
    (costs_then (costs_write (cond n.end (codes "</") (codes "<")) 2 (by_cond (λ (s : Bytes). length s ≤ 2) n.end (λ e. omega arith) (λ e. omega arith)))
    (costs_then (costs_write (name_of n.tag) 10 (name_length n.tag))
    (costs_then (costs_push_all (codes ">"))
    (costs_write (cond ((is_list n.tag && not n.end) && eqb n.pre_depth 0) (codes "\n") []) 1 (by_cond (λ (s : Bytes). length s ≤ 1) ((is_list n.tag && not n.end) && eqb n.pre_depth 0) (λ e. omega arith) (λ e. omega arith)))))))
  where
    fewer : (depth - one (is_list n.tag && not n.end)) * 2 ≤ 2 * depth
    fewer = omega arith

-- ---- numbers of list levels

module _ (q : ℕ) where
  AtMost : List ℕ → Type 0
  AtMost l = (i : ℕ) → get_or l i 0 ≤ q

  at_most_take : (k : ℕ) (l : List ℕ) → AtMost l → AtMost (take k l)
  unfolding AtMost
  at_most_take zero l h i = omega arith
  at_most_take (suc k) [] h i = omega arith
  at_most_take (suc k) (x ∷ l) h zero = h 0
  at_most_take (suc k) (x ∷ l) h (suc i) = at_most_take k l (λ j. h (suc j)) i

  at_most_more : (l : List ℕ) (x : ℕ) → AtMost l → x ≤ q → AtMost (l ++ x ∷ [])
  unfolding AtMost
  at_most_more [] x h e zero = e
  at_most_more [] x h e (suc i) = omega arith
  at_most_more (y ∷ l) x h e zero = h 0
  at_most_more (y ∷ l) x h e (suc i) = at_most_more l x (λ j. h (suc j)) e i

  at_most_set : (l : List ℕ) (k x : ℕ) → AtMost l → x ≤ q → AtMost (set l k x)
  unfolding AtMost
  at_most_set [] k x h e i = omega arith
  at_most_set (y ∷ l) zero x h e zero = e
  at_most_set (y ∷ l) zero x h e (suc i) = h (suc i)
  at_most_set (y ∷ l) (suc k) x h e zero = h 0
  at_most_set (y ∷ l) (suc k) x h e (suc i) = at_most_set l k x (λ j. h (suc j)) e i

-- ---- a state within bounds: of margins, uncollapsed, numbers, depth and greatest length

pub record Small (m u q d p : ℕ) (margins uncollapsed depth : ℕ) (numbering : List ℕ) (prefix : Bytes) (out : Out) : Type 0 where
  pub low_margins : margins ≤ m
  pub low_uncollapsed : uncollapsed ≤ u
  pub numbers : (i : ℕ) → get_or numbering i 0 ≤ q
  pub low_depth : depth ≤ d
  pub short : length prefix ≤ 12
  pub below : length out.text ≤ out.peak
  pub low_peak : out.peak ≤ p

abbrev pub Within : (m u q d p : ℕ) → State → Type 0
Within m u q d p S = Small m u q d p S.margins S.uncollapsed S.depth S.numbering S.prefix S.out

module _ {m u q d p : ℕ} (S : State) (h : Within m u q d p S) where
  within_more : {m' u' q' d' p' : ℕ} → m ≤ m' → u ≤ u' → q ≤ q' → d ≤ d' → p ≤ p' → Within m' u' q' d' p' S
  within_more a b c e f =
      record {
        low_margins = omega (arith, h.low_margins);
        low_uncollapsed = omega (arith, h.low_uncollapsed);
        numbers = λ i. omega (arith, h.numbers i);
        low_depth = omega (arith, h.low_depth);
        short = h.short;
        below = h.below;
        low_peak = omega (arith, h.low_peak);
      }

  within_peak : {p' : ℕ} → p ≤ p' → Within m u q d p' S
  within_peak f = within_more (omega arith) (omega arith) (omega arith) (omega arith) f

  within_out : {F : Out → Out} {c p' : ℕ} → Costs F c → p + c ≤ p' → Within m u q d p' (on_out F S)
  within_out k l =
      record {
        low_margins = h.low_margins;
        low_uncollapsed = h.low_uncollapsed;
        numbers = h.numbers;
        low_depth = h.low_depth;
        short = h.short;
        below = k.below S.out h.below;
        low_peak = omega (arith, k.most S.out h.below, h.low_peak);
      }

  within_margins : {m' : ℕ} (k : ℕ) → k ≤ m' → Within m' u q d p (with_margins k S)
  within_margins k l =
      record { low_margins = l; low_uncollapsed = h.low_uncollapsed; numbers = h.numbers; low_depth = h.low_depth; short = h.short; below = h.below; low_peak = h.low_peak }

  within_uncollapsed : {u' : ℕ} (k : ℕ) → k ≤ u' → Within m u' q d p (with_uncollapsed k S)
  within_uncollapsed k l =
      record { low_margins = h.low_margins; low_uncollapsed = l; numbers = h.numbers; low_depth = h.low_depth; short = h.short; below = h.below; low_peak = h.low_peak }

  within_levels : {q' d' : ℕ} (k : ℕ) (l : List ℕ) → k ≤ d' → AtMost q' l → Within m u q' d' p (with_levels k l S)
  unfolding AtMost
  within_levels k l e a =
      record { low_margins = h.low_margins; low_uncollapsed = h.low_uncollapsed; numbers = a; low_depth = e; short = h.short; below = h.below; low_peak = h.low_peak }

  within_prefix : (s : Bytes) → length s ≤ 12 → Within m u q d p (with_prefix s S)
  within_prefix s e =
      record { low_margins = h.low_margins; low_uncollapsed = h.low_uncollapsed; numbers = h.numbers; low_depth = h.low_depth; short = e; below = h.below; low_peak = h.low_peak }

-- ---- the parts of a step

one_low : (b : Bool) → one b ≤ 1
one_low true = omega arith
one_low false = omega arith

module _ {m u q d p : ℕ} (n : ExtractNode) (S : State) (h : Within m u q d p S) where
  within_margin : (bare off : Bool) → Within m u q d (p + (m + 1)) (margin bare off S)
  unfolding margin
  within_margin bare off =
      let T = on_out (margin_out bare off S.margins) S in
      within_margins T (within_out S h (costs_margin bare off S.margins) (omega (arith, h.low_margins))) 0 (omega arith)

  within_rows : Within m u q d p (rows n S)
  unfolding rows
  within_rows = by_cond (Within m u q d p) (is_tr n.tag) (λ e. by_cond (Within m u q d p) n.end (λ d. h) (λ d. h)) (λ e. h)

  within_beside : (off : Bool) → Within m u q d (p + 2) (beside_cell off S)
  unfolding beside_cell
  within_beside off =
      by_cond (Within m u q d (p + 2)) (get_or S.row_has_cell (length S.row_has_cell - 1) false) (λ e. within_out S h (costs_between off) (omega arith)) (λ e. within_peak S h (omega arith))

  within_in_row : (off : Bool) → Within m u q d (p + 2) (in_row off S)
  unfolding in_row
  within_in_row off = by_cond (Within m u q d (p + 2)) (eqb (length S.row_has_cell) 0) (λ e. within_peak S h (omega arith)) (λ e. within_beside off)

  within_count : Within m (u + 1) q d p (count_uncollapsed n S)
  unfolding count_uncollapsed
  within_count =
      by_cond (Within m (u + 1) q d p) (n.block && not n.collapse_margins) (λ e. within_uncollapsed S h (S.uncollapsed + 1) (omega (arith, h.low_uncollapsed)))
      (λ e. within_more S h (omega arith) (omega arith) (omega arith) (omega arith) (omega arith))

  within_level : 1 ≤ q → Within m u q (d + 1) p (level n S)
  unfolding level AtMost
  within_level k =
      by_cond (Within m u q (d + 1) p) (changes_level n.tag S.depth)
      (λ e. by_cond (Within m u q (d + 1) p) n.end
      (λ _. within_prefix (with_levels (S.depth - 1) (pop S.numbering) S) (within_levels S h (S.depth - 1) (pop S.numbering) (omega (arith, h.low_depth)) (at_most_take q (length S.numbering - 1) S.numbering h.numbers)) [] (omega arith))
      (λ _. within_levels S h (S.depth + 1) (S.numbering ++ (one (is_ol n.tag) ∷ [])) (omega (arith, h.low_depth)) (at_most_more q S.numbering (one (is_ol n.tag)) h.numbers (by_cond (λ (x : ℕ). x ≤ q) (is_ol n.tag) (λ e. k) (λ e. omega arith)))))
      (λ e. within_more S h (omega arith) (omega arith) (omega arith) (omega arith) (omega arith))

module _ {m u q d p : ℕ} (bullets : Bool) (n : ExtractNode) (S : State) (h : Within m u q d p S) where
  within_cell : (off : Bool) → Within m u q d (p + (m + 3)) (cell off n S)
  unfolding cell
  within_cell off =
      by_cond (Within m u q d (p + (m + 3))) (is_cell n.tag)
      (λ e. within_peak (in_row off (margin (collapses off n) off S)) (within_in_row n (margin (collapses off n) off S) (within_margin n S h (collapses off n) off) off) (omega arith))
      (λ e. within_peak S h (omega arith))

  number_low : number_of S ≤ q
  unfolding number_of
  number_low = h.numbers (length S.numbering - 1)

  number_short : q < 10000000000 → length (number_text (number_of S)) ≤ 12
  unfolding codes
  number_short k = omega (arith, length-append (digits (number_of S)) (codes ". "), digits_length 9 (number_of S) (omega (arith, number_low)))

  within_item : q < 10000000000 → Within m u (q + 1) d p (item bullets n S)
  unfolding item AtMost
  within_item k =
      by_cond P (bullets && is_li n.tag)
      (λ e. by_cond P (eqb (number_of S) 0) (λ z. within_prefix S more _ (omega arith))
      (λ z. by_cond (λ (T : State). P (with_prefix (number_text (number_of S)) T)) n.end
      (λ _. within_prefix S more _ (number_short k))
      (λ _. within_prefix U (within_levels S more S.depth l h.low_depth (at_most_set (q + 1) S.numbering (length S.numbering - 1) (number_of S + 1) more.numbers (omega (arith, number_low)))) _ (number_short k))))
      (λ e. more)
    where
      P : State → Type 0
      P = Within m u (q + 1) d p

      more : P S
      more = within_more S h (omega arith) (omega arith) (omega arith) (omega arith) (omega arith)

      l : List ℕ
      l = set S.numbering (length S.numbering - 1) (number_of S + 1)

      U : State
      U = with_levels S.depth l S

  within_html_item : Within m u q d (p + (m + 2 * d + 7)) (html_item bullets n S)
  unfolding html_item
  within_html_item =
      let T = margin (collapses false n) false S in
      let k = within_margin n S h (collapses false n) false in
      let F : Out → Out = item_out n.end (eqb n.pre_depth 0) T.depth in
      by_cond (Within m u q d (p + (m + 2 * d + 7))) (bullets && is_li n.tag)
      (λ e. within_margins (on_out F T) (within_out T k (costs_item n.end (eqb n.pre_depth 0) T.depth) (omega (arith, k.low_depth))) 0 (omega arith))
      (λ e. within_peak S h (omega arith))

  within_html_pre : Within m u q d (p + (m + 7)) (html_pre n S)
  unfolding html_pre codes
  within_html_pre =
      let T = margin (collapses false n) false S in
      let k = within_margin n S h (collapses false n) false in
      let P = Within m u q d (p + (m + 7)) in
      by_cond P (is_pre n.tag)
      (λ e. by_cond P n.end
      (λ _. within_margins (on_out (push_all (codes "</pre>")) S) (within_out S h (costs_push_all (codes "</pre>")) (omega arith)) 0 (omega arith))
      (λ _. within_margins (on_out (push_all (codes "<pre>")) T) (within_out T k (costs_push_all (codes "<pre>")) (omega arith)) 0 (omega arith)))
      (λ e. within_peak S h (omega arith))

  within_html_br : Within m u q d (p + 4) (html_br n S)
  unfolding html_br codes
  within_html_br = by_cond (Within m u q d (p + 4)) (is_br n.tag) (λ e. within_out S h (costs_push_all (codes "<br>")) (omega arith)) (λ e. within_peak S h (omega arith))

  within_before_tag : (block : Bool) → Within (m + 2) u q d (p + (m + 3)) (before_tag n block S)
  unfolding before_tag
  within_before_tag block =
      let T = with_margins (tag_margins n block S.margins) S in
      let U = margin (collapses false n) false T in
      by_cond (Within (m + 2) u q d (p + (m + 3))) (opens_tag n S.uncollapsed)
      (λ e. within_uncollapsed U (within_peak U (within_margin n T (within_margins S h (tag_margins n block S.margins) tag_margins_law) (collapses false n) false) (omega arith)) 0 (omega arith))
      (λ e. within_more S h (omega arith) (omega arith) (omega arith) (omega arith) (omega arith))
    where
      tag_margins_law : tag_margins n block S.margins ≤ m + 2
      tag_margins_law =
          by_cond (λ (k : ℕ). k ≤ m + 2) n.collapse_margins
          (λ e. omega (arith, h.low_margins, one_low block, one_low n.big_block, greater_max S.margins (one block + one n.big_block)))
          (λ e. omega (arith, h.low_margins, one_low block, one_low n.big_block))

  within_html_tag : (block : Bool) → Within (m + 2) u q d (p + (m + 2 * d + 17)) (html_tag bullets n block S)
  unfolding html_tag
  within_html_tag block =
      let T = before_tag n block S in
      let k = within_before_tag block in
      let F = tag_out bullets n T.depth in
      by_cond (Within (m + 2) u q d (p + (m + 2 * d + 17))) (wants_tag bullets n)
      (λ e. within_out T k (costs_tag bullets n T.depth) (omega (arith, k.low_depth)))
      (λ e. within_more S h (omega arith) (omega arith) (omega arith) (omega arith) (omega arith))

  within_block : (block : Bool) → Within (m + 2) u q d p (block_margin block n S)
  unfolding block_margin
  within_block block =
      by_cond (Within (m + 2) u q d p) block (λ e. within_margins S h _ block_margins) (λ e. within_more S h (omega arith) (omega arith) (omega arith) (omega arith) (omega arith))
    where
      two : (b : Bool) → cond b 2 1 ≤ 2
      two true = omega arith
      two false = omega arith

      block_margins : cond n.collapse_margins (greater S.margins (cond (n.big_block && eqb n.pre_depth 0) 2 1)) (S.margins + cond n.big_block 2 1) ≤ m + 2
      block_margins =
          by_cond (λ (k : ℕ). k ≤ m + 2) n.collapse_margins
          (λ e. omega (arith, h.low_margins, two (n.big_block && eqb n.pre_depth 0), greater_max S.margins (cond (n.big_block && eqb n.pre_depth 0) 2 1)))
          (λ e. omega (arith, h.low_margins, two n.big_block))

  within_indent : (basic : Bool) → Within m u q d (p + (2 * d + 2)) (indent_text basic bullets S)
  unfolding indent_text
  within_indent basic =
      by_cond (Within m u q d (p + (2 * d + 2))) (basic && ltb 0 S.depth)
      (λ e. within_out S h (costs_spaces ((S.depth + one (bullets && not S.bullet)) * 2)) deep)
      (λ e. within_peak S h (omega arith))
    where
      deep : p + (S.depth + one (bullets && not S.bullet)) * 2 ≤ p + (2 * d + 2)
      deep = omega (arith, h.low_depth, one_low (bullets && not S.bullet))

  within_lead : (basic : Bool) → Within m u q d (p + (2 * d + 14)) (lead basic bullets S)
  unfolding lead
  within_lead basic =
      let T = indent_text basic bullets S in
      let k = within_indent basic in
      let U = on_out (push_all T.prefix) T in
      within_prefix U (within_out T k (costs_push_all T.prefix) (omega (arith, k.short))) [] (omega arith)

shortened_length : (squeeze trim : Bool) (text : Bytes) → length (shortened squeeze trim text) ≤ length text
shortened_length true true text = omega (arith, trim_start_length is_space (collapse text), collapse_length is_space text)
shortened_length true false text = collapse_length is_space text
shortened_length false trim text = omega arith

shown_length : (escapes : Bool) (t : Bytes) → length (cond escapes (escape t) t) ≤ 6 * length t
shown_length true t = (escape_length t).1
shown_length false t = omega arith

module _ {m u q d p : ℕ} (bullets : Bool) (n : ExtractNode) (text : Bytes) (S : State) (h : Within m u q d p S) where
  within_text : (off basic block : Bool) → Within m u q d (p + (m + 2 * d + 6 * length text + 15)) (put_text off basic bullets n block text S)
  unfolding put_text
  within_text off basic block =
      let t = shortened (collapses off n) (trims block S) text in
      let T = margin (collapses off n) off S in
      let U = with_uncollapsed 0 T in
      let s = cond n.escape (escape t) t in
      by_cond (Within m u q d (p + (m + 2 * d + 6 * length text + 15))) (is_empty t) (λ e. within_peak S h (omega arith))
      (λ e. within_out (lead basic bullets U) (within_lead bullets n U (within_uncollapsed T (within_margin n S h (collapses off n) off) 0 (omega arith)) basic) (costs_push_all s)
      (omega (arith, shown_length n.escape t, shortened_length (collapses off n) (trims block S) text)))

-- ---- the step

module _ {m u q d p : ℕ} (bullets : Bool) (n : ExtractNode) (text : Bytes) (S : State) (h : Within m u q d p S) (few : q < 10000000000) (some : 1 ≤ q) where
  within_lists : Within m (u + 1) q (d + 1) p (level n (count_uncollapsed n S))
  within_lists = within_level n (count_uncollapsed n S) (within_count n S h) some

  within_off : Within (m + 2) u q d (p + (m + 2 * d + 6 * length text + 17)) (after_off bullets n text S)
  unfolding after_off
  within_off =
      let T = block_margin n.block n S in
      within_peak (put_text true false bullets n n.block text T) (within_text bullets n text T (within_block bullets n S h n.block) true false n.block) (omega arith)

  within_basic : Within (m + 2) (u + 1) (q + 1) (d + 1) (p + (m + 2 * d + 6 * length text + 19)) (after_basic bullets n text S)
  unfolding after_basic
  within_basic =
      let T = level n (count_uncollapsed n S) in
      let U = item bullets n T in
      let W = block_margin n.block n U in
      within_peak (put_text false true bullets n n.block text W)
      (within_text bullets n text W (within_block bullets n U (within_item bullets n T within_lists few) n.block) false true n.block) (omega arith)

  within_html : Within (m + 4) (u + 1) q (d + 1) (p + (4 * m + 6 * d + 6 * length text + 80)) (after_html bullets n text S)
  unfolding after_html finish_html html_marks
  within_html =
      let T = level n (count_uncollapsed n S) in
      let A = html_item bullets n T in
      let B = html_pre n A in
      let C = html_br n B in
      let D = html_tag bullets n (block_after_marks bullets n) C in
      let block = block_after_tag bullets n C.uncollapsed in
      let E = block_margin block n D in
      let a = within_html_item bullets n T within_lists in
      let b = within_html_pre bullets n A a in
      let c = within_html_br bullets n B b in
      let k = within_html_tag bullets n C c (block_after_marks bullets n) in
      let e = within_block bullets n D k block in
      within_more (put_text false false bullets n block text E) (within_text bullets n text E e false false block) (omega arith) (omega arith) (omega arith) (omega arith) (omega arith)

within_after : {m u q d p : ℕ} (f : Formatting) (bullets : Bool) (n : ExtractNode) (text : Bytes) (S : State) → Within m u q d p S → q < 10000000000 → 1 ≤ q
    → Within (m + 4) (u + 1) (q + 1) (d + 1) (p + (4 * m + 6 * d + 6 * length text + 80)) (after f bullets n text S)
within_after Off bullets n text S h few some =
    within_more (after_off bullets n text S) (within_off bullets n text S h few some) (omega arith) (omega arith) (omega arith) (omega arith) (omega arith)
within_after Basic bullets n text S h few some =
    within_more (after_basic bullets n text S) (within_basic bullets n text S h few some) (omega arith) (omega arith) (omega arith) (omega arith) (omega arith)
within_after MinimalHtml bullets n text S h few some =
    within_more (after_html bullets n text S) (within_html bullets n text S h few some) (omega arith) (omega arith) (omega arith) (omega arith) (omega arith)

pub within_step : {m u q d p : ℕ} (f : Formatting) (bullets : Bool) (n : ExtractNode) (text : Bytes) (S : State) → Within m u q d p S → q < 10000000000 → 1 ≤ q
    → Within (m + 4) (u + 1) (q + 1) (d + 1) (p + (5 * m + 6 * d + 6 * length text + 83)) (step f bullets n text S)
unfolding step_by
within_step {m} {u} {q} {d} {p} f bullets n text S h few some =
    let T = rows n S in
    let U = cell (is_off f) n T in
    let r = within_rows n S h in
    by_cond (Within (m + 4) (u + 1) (q + 1) (d + 1) (p + (5 * m + 6 * d + 6 * length text + 83))) (is_cell n.tag && n.end)
    (λ e. within_more T r (omega arith) (omega arith) (omega arith) (omega arith) (omega arith))
    (λ e. within_peak (after f bullets n text U) (within_after f bullets n text U (within_cell bullets n T r (is_off f)) few some) (omega arith))
