-- With formatting Off `serialize` writes the text of every entry but a cell's end, up to blanks, and its blanks are U+0020, never three together.
use mathlib.Core.Path.{◌≡◌, refl, sym, ap, ◌∙◌, subst}
use mathlib.Core.Bool.{Bool, true, false, ◌&&◌, ◌||◌, cond, or-true}
use mathlib.Core.List.{List, [], ◌∷◌, ◌++◌, append-nil}
use Prim.Native.Nat.{ℕ, ◌≤◌, ◌-◌}
use native.Mathlib.Omega.{arith}
use lib.Dec.{eqb}
use lib.ListN.{length, get_or}
use Rattle.common.specs.Bytes.{Bytes, is_empty}
use Rattle.common.proofs.Choice.{by_cond}
use Rattle.options.specs.Options.{with_formatting}
use Rattle.options.specs.declared.ExtractOptions.{ExtractOptions}
use Rattle.options.specs.declared.Formatting.TheVariants.{Off}
use Rattle.tags.specs.Tags.{is_tr, is_cell}
use Rattle.text.specs.Text.{is_space, is_ascii_whitespace, collapse, struck_by, struck, escape}
use Rattle.text.proofs.SpaceLaws.{space_32}
use Rattle.text.proofs.StruckLaws.{struck_append, struck_trim_start, struck_rstrip, struck_collapse}
use Rattle.writer.specs.Out.{Out, push_all, strip_by, strip}
use Rattle.writer.proofs.OutLaws.{push_all_text}
use Rattle.html2text.specs.Collect.{Entry}
use Rattle.html2text.specs.Extract.{going, serialized}
use Rattle.html2text.specs.Serialize.{State, on_out, with_uncollapsed, ends_blank, collapses, separated, margin_out, margin, rows, between, beside_cell, in_row, cell, block_margin, trims, shortened, indent_text, lead, put_text, after_off, step_by, step}
use Rattle.html2text.specs.declared.ExtractNode.{ExtractNode}
use Rattle.html2text.proofs.BlankRuns.{run, Calm, calm_append, calm_space, run_space, calm_rstrip, run_rstrip, ends_run, calm_collapse, calm_trim_start}
use Rattle.common.proofs.TestLaws.{or_neither}
use Rattle.html2text.proofs.RunLaws.{serialized_from, serialized_start}

-- the options with formatting Off
abbrev pub off : ExtractOptions → ExtractOptions
off = with_formatting Off

abbrev pub is_cell_end : ExtractNode → Bool
is_cell_end n = is_cell n.tag && n.end

-- the texts of all entries but the ends of cells, blanks struck out
unfoldable pub kept : List Entry → Bytes
kept [] = []
kept (e ∷ before) = kept before ++ cond (is_cell_end e.node) [] (struck e.text)

-- no entry is escaped
abbrev pub Plain : List Entry → Type 0
Plain [] = Unit {0}
Plain (e ∷ before) = (e.node.escape ≡ false) × Plain before

-- ---- texts that differ in blanks

-- u is t up to blanks, and its blanks are right if those of t are
record Alike (t u : Bytes) : Type 0 where
  text : struck u ≡ struck t
  calm : Calm 0 t → Calm 0 u

alike : (t : Bytes) → Alike t t
alike t = record { text = refl; calm = λ h. h }

alike_then : {t u v : Bytes} → Alike t u → Alike u v → Alike t v
alike_then a b = record { text = b.text ∙ a.text; calm = λ h. b.calm (a.calm h) }

alike_strip : (o : Out) → Alike o.text (strip o).text
unfolding strip_by
alike_strip o = record { text = struck_rstrip is_space o.text; calm = calm_rstrip 0 o.text }

struck_space : (t : Bytes) → struck (t ++ 0x20 ∷ []) ≡ struck t
unfolding struck_by is_space is_ascii_whitespace
struck_space t = struck_append is_space t (0x20 ∷ []) ∙ append-nil (struck t)

alike_space : (o : Out) → run 0 o.text ≡ 0 → Alike o.text (push_all (0x20 ∷ []) o).text
alike_space o e = rw push_all_text (record { text = struck_space o.text; calm = λ h. calm_space o.text h e })

-- at most one blank stands last
abbrev OneLast : Out → Type 0
OneLast o = run 0 o.text ≤ 1

-- a margin: alike, and where no blank stood last, then at most one does
record Parted (o p : Out) : Type 0 where
  same : Alike o.text p.text
  last : run 0 o.text ≡ 0 → OneLast p

parted_bare : (size : ℕ) (o : Out) → Parted o (separated true size (strip o))
unfolding separated strip_by
parted_bare size o =
    let s = strip o in
    let bare : run 0 s.text ≡ 0 = run_rstrip o.text in
    by_cond (Parted o) (eqb (length s.text) 0)
    (λ e. record { same = alike_strip o; last = λ h. omega arith })
    (λ e. record { same = alike_then (alike_strip o) (alike_space s bare); last = λ h. rw push_all_text (omega (arith, run_space s.text bare)) })

parted : (size : ℕ) (o : Out) → Parted o (margin_out true true size o)
unfolding margin_out
parted size o = by_cond (Parted o) (eqb size 0) (λ e. record { same = alike o.text; last = λ h. omega arith }) (λ e. parted_bare size o)

alike_between : (o : Out) → Alike o.text (between true o).text
unfolding between
alike_between o =
    by_cond (λ (p : Out). Alike o.text p.text) (eqb (length o.text) 0 || ends_blank o.text)
    (λ e. alike o.text)
    (λ e. alike_space o (ends_run o.text (or_neither (eqb (length o.text) 0) (ends_blank o.text) e).1))

-- ---- states

-- T has the text of S and then w, up to blanks, its blanks are right if those of S are, and there is no prefix
record Adds (S T : State) (w : Bytes) : Type 0 where
  text : struck T.out.text ≡ struck S.out.text ++ w
  calm : Calm 0 S.out.text → Calm 0 T.out.text
  prefix : T.prefix ≡ S.prefix

adds_none : (S T : State) → Alike S.out.text T.out.text → T.prefix ≡ S.prefix → Adds S T []
adds_none S T a p = record { text = a.text ∙ sym (append-nil (struck S.out.text)); calm = a.calm; prefix = p }

adds_same : (S T : State) → T.out ≡ S.out → T.prefix ≡ S.prefix → Adds S T []
adds_same S T e p = adds_none S T (rw e (alike S.out.text)) p

adds_then : {S T U : State} {w : Bytes} → Adds S T [] → Adds T U w → Adds S U w
adds_then {S} {T} {U} {w} a b = record {
  text = b.text ∙ ap (λ (u : Bytes). u ++ w) (a.text ∙ append-nil (struck S.out.text));
  calm = λ h. b.calm (a.calm h);
  prefix = b.prefix ∙ a.prefix;
}

-- blanks at the end go before every margin, and texts are collapsed
squeezes : (n : ExtractNode) → collapses true n ≡ true
squeezes n = or-true (eqb n.pre_depth 0)

adds_margin : (n : ExtractNode) (S : State) → Adds S (margin (collapses true n) true S) []
unfolding margin
adds_margin n S = rw (squeezes n) (adds_none S _ (parted S.margins S.out).same refl)

last_margin : (n : ExtractNode) (S : State) → run 0 S.out.text ≡ 0 → OneLast (margin (collapses true n) true S).out
unfolding margin
last_margin n S h = rw (squeezes n) ((parted S.margins S.out).last h)

adds_rows : (n : ExtractNode) (S : State) → Adds S (rows n S) []
unfolding rows
adds_rows n S =
    by_cond (λ (T : State). Adds S T []) (is_tr n.tag)
    (λ e. by_cond (λ (T : State). Adds S T []) n.end (λ e. adds_same S _ refl refl) (λ e. adds_same S _ refl refl))
    (λ e. adds_same S S refl refl)

adds_beside : (S : State) → Adds S (beside_cell true S) []
unfolding beside_cell
adds_beside S =
    by_cond (λ (T : State). Adds S T []) (get_or S.row_has_cell (length S.row_has_cell - 1) false)
    (λ e. adds_none S _ (alike_between S.out) refl) (λ e. adds_same S S refl refl)

adds_in_row : (S : State) → Adds S (in_row true S) []
unfolding in_row
adds_in_row S =
    by_cond (λ (T : State). Adds S T []) (eqb (length S.row_has_cell) 0) (λ e. adds_same S S refl refl)
    (λ e. adds_then (adds_beside S) (adds_same (beside_cell true S) _ refl refl))

adds_cell : (n : ExtractNode) (S : State) → Adds S (cell true n S) []
unfolding cell
adds_cell n S =
    by_cond (λ (T : State). Adds S T []) (is_cell n.tag)
    (λ e. adds_then (adds_margin n S) (adds_in_row (margin (collapses true n) true S))) (λ e. adds_same S S refl refl)

block_out : (n : ExtractNode) (S : State) → ((block_margin n.block n S).out ≡ S.out) × ((block_margin n.block n S).prefix ≡ S.prefix)
unfolding block_margin
block_out n S = by_cond (λ (T : State). (T.out ≡ S.out) × (T.prefix ≡ S.prefix)) n.block (λ e. (refl, refl)) (λ e. (refl, refl))

-- ---- the text of an entry

struck_shortened : (squeeze trim : Bool) (t : Bytes) → squeeze ≡ true → struck (shortened squeeze trim t) ≡ struck t
struck_shortened squeeze true t e = rw e (struck_trim_start is_space (collapse t) ∙ struck_collapse is_space (space_32 0x20 refl) t)
struck_shortened squeeze false t e = rw e (struck_collapse is_space (space_32 0x20 refl) t)

-- what is written goes with what stands before it
calm_shortened : (squeeze block : Bool) (S : State) (t : Bytes) (k : ℕ) → squeeze ≡ true → (run 0 S.out.text ≡ 0 → k ≤ 1)
    → Calm k (shortened squeeze (trims block S) t)
calm_shortened squeeze block S t k q h =
    rw q
    (by_cond (Calm k) (trims block S)
    (λ e. calm_trim_start 0 k (collapse t) (calm_collapse 0 t (omega arith)))
    (λ e. calm_collapse k t (h (ends_run S.out.text (or_neither block (ends_blank S.out.text) e).1))))

module _ (bullets : Bool) (n : ExtractNode) (plain : n.escape ≡ false) where
  -- what `put_text` does with a text that is not empty
  abbrev written : Bytes → State → State
  written t S = on_out (push_all (cond n.escape (escape t) t)) (lead false bullets (with_uncollapsed 0 (margin (collapses true n) true S)))

  adds_written : (t : Bytes) (S : State) → S.prefix ≡ [] → Calm (run 0 (margin (collapses true n) true S).out.text) t → Adds S (written t S) (struck t)
  unfolding lead indent_text push_all
  adds_written t S p h =
      let M = margin (collapses true n) true S in
      let m = adds_margin n S in
      let e : (push_all (cond n.escape (escape t) t) (push_all M.prefix M.out)).text ≡ M.out.text ++ t =
      rw (plain, m.prefix ∙ p) (push_all_text t M.out) in
      record {
        text = ap struck e ∙ struck_append is_space M.out.text t ∙ ap (λ (u : Bytes). u ++ struck t) (m.text ∙ append-nil (struck S.out.text));
        calm = λ c. subst (Calm 0) (sym e) (calm_append 0 M.out.text t (m.calm c) h);
        prefix = sym p;
      }

  adds_shown : (t : Bytes) (S : State) → S.prefix ≡ [] → Calm (run 0 (margin (collapses true n) true S).out.text) t
      → Adds S (cond (is_empty t) S (written t S)) (struck t)
  unfolding struck_by
  adds_shown [] S p h = adds_same S S refl refl
  adds_shown (c ∷ t) S p h = adds_written (c ∷ t) S p h

  adds_text : (t : Bytes) (S : State) → S.prefix ≡ [] → Adds S (put_text true false bullets n n.block t S) (struck t)
  unfolding put_text
  adds_text t S p =
      let shown = shortened (collapses true n) (trims n.block S) t in
      subst (Adds S (cond (is_empty shown) S (written shown S))) (struck_shortened (collapses true n) (trims n.block S) t (squeezes n))
      (adds_shown shown S p (calm_shortened (collapses true n) n.block S t _ (squeezes n) (last_margin n S)))

  adds_after : (t : Bytes) (S : State) → S.prefix ≡ [] → Adds S (after_off bullets n t S) (struck t)
  unfolding after_off
  adds_after t S p =
      let b = block_out n S in
      adds_then (adds_same S (block_margin n.block n S) b.0 b.1) (adds_text t (block_margin n.block n S) (b.1 ∙ p))

  adds_step : (t : Bytes) (S : State) → S.prefix ≡ [] → Adds S (step Off bullets n t S) (cond (is_cell_end n) [] (struck t))
  unfolding step_by
  adds_step t S p = go (is_cell_end n)
    where
      begun : Adds S (cell true n (rows n S)) []
      begun = adds_then (adds_rows n S) (adds_cell n (rows n S))

      go : (b : Bool) → Adds S (cond b (rows n S) (after_off bullets n t (cell true n (rows n S)))) (cond b [] (struck t))
      go true = adds_rows n S
      go false = adds_then begun (adds_after t (cell true n (rows n S)) (begun.prefix ∙ p))

-- ---- all entries

pub record Written (es : List Entry) (S : State) : Type 0 where
  pub text : struck S.out.text ≡ kept es
  pub calm : Calm 0 S.out.text
  pub prefix : S.prefix ≡ []

pub serialized_off : (o : ExtractOptions) (es : List Entry) (S : State) → Plain es → serialized (off o) es ≡ going S → Written es S
unfolding kept struck_by
serialized_off o [] S h e = rw (serialized_start (off o) S e) (record { text = refl; calm = tt; prefix = refl })
serialized_off o (n ∷ es) S h e =
    let f = serialized_from (off o) n es S e in
    let w = serialized_off o es f.state h.1 f.before in
    let a = adds_step o.list_bullets n.node h.0 n.text f.state w.prefix in
    rw f.after
    (record {
      text = a.text ∙ ap (λ (u : Bytes). u ++ cond (is_cell_end n.node) [] (struck n.text)) w.text;
      calm = a.calm w.calm;
      prefix = a.prefix ∙ w.prefix;
    })
