-- `serialize` taking each entry when the next one is pushed comes to what it comes to over all entries.
use mathlib.Core.Path.{◌≡◌, refl, sym, ap, ◌∙◌}
use mathlib.Core.Bool.{Bool, true, false, cond}
use mathlib.Core.List.{List, [], ◌∷◌, ◌++◌}
use Prim.Native.Nat.{ℕ, ◌+◌, ◌≤◌}
use native.Mathlib.Omega.{arith}
use lib.ListN.{length, length-append}
use Rattle.common.specs.Bytes.{Bytes}
use Rattle.options.specs.declared.ExtractOptions.{ExtractOptions}
use Rattle.writer.specs.Out.{Out, greater, push_all}
use Rattle.writer.proofs.OutLaws.{greater_max, push_all_text, push_all_peak}
use Rattle.html2text.specs.Collect.{Event, Entry, tag_number, pushes, pushed, marked, added, amended, on_last, collect, collect_all}
use Rattle.html2text.specs.Extract.{serialized, longest_text}
use Rattle.html2text.specs.Fused.{Fused, idle, closed, opened, grown, fed, fed_all, Fusion}

module _ (o : ExtractOptions) where
  -- the entries so far, as the fused run has them
  unfoldable pub view : List Entry → Fused
  view [] = idle
  view (e ∷ before) =
      record { any = true; row = e.row; node = e.node; note = record { text = e.text; peak = longest_text (e ∷ before) }; run = serialized o before }

  -- the entry that an event amends, as the open one: p is the greatest length before
  amended_view : (e : Event) (n : Entry) (before : List Entry) (p : ℕ) → greater (longest_text before) (length n.text) ≡ p
      → view (amended o e n ∷ before)
      ≡ record { any = true; row = n.row; node = marked o (tag_number e.node) n.node; note = push_all (added o e.node e.end n.node.tag) (record { text = n.text; peak = p }); run = serialized o before }
  unfolding view longest_text
  amended_view e n before p h =
      λ i. record { any = true; row = n.row; node = marked o (tag_number e.node) n.node; note = note i; run = serialized o before }
    where
      s : Bytes
      s = added o e.node e.end n.node.tag

      O : Out
      O = record { text = n.text; peak = p }

      peak : greater (longest_text before) (length (n.text ++ s)) ≡ (push_all s O).peak
      peak =
          let m = greater_max (longest_text before) (length n.text) in
          let l : length O.text ≤ O.peak = omega arith in
          omega (arith, push_all_peak s O l, length-append n.text s, greater_max (longest_text before) (length (n.text ++ s)), greater_max p (length n.text + length s))

      note : ◌≡◌ {A = Out} (record { text = n.text ++ s; peak = greater (longest_text before) (length (n.text ++ s)) }) (push_all s O)
      note = λ i. record { text = sym (push_all_text s O) i; peak = peak i }

  pub fused_one : (nodes : List Entry) (e : Event) → view (collect o nodes e) ≡ fed o e (view nodes)
  unfolding view collect fed opened grown closed serialized longest_text
  fused_one [] e = amended_view e (pushed o [] e) [] 0 (greater_max 0 0)
  fused_one (n ∷ before) e = go (pushes o (n ∷ before) e)
    where
      go : (b : Bool) → view (on_last (amended o e) (cond b (pushed o (n ∷ before) e ∷ n ∷ before) (n ∷ before))) ≡ cond b (opened o e (view (n ∷ before))) (grown o e (view (n ∷ before)))
      go true = amended_view e (pushed o (n ∷ before) e) (n ∷ before) (longest_text (n ∷ before)) (omega (arith, greater_max (longest_text (n ∷ before)) 0))
      go false = amended_view e n before (longest_text (n ∷ before)) refl

  fused : (nodes : List Entry) (es : List Event) → view (collect_all o nodes es) ≡ fed_all o es (view nodes)
  unfolding collect_all fed_all
  fused nodes [] = refl
  fused nodes (e ∷ es) = fused (collect o nodes e) es ∙ ap (fed_all o es) (fused_one nodes e)

  closed_view : (nodes : List Entry) → closed o (view nodes) ≡ serialized o nodes
  unfolding view closed serialized
  closed_view [] = refl
  closed_view (n ∷ before) = refl

  peak_view : (nodes : List Entry) → (view nodes).note.peak ≡ longest_text nodes
  unfolding view longest_text
  peak_view [] = refl
  peak_view (n ∷ before) = refl

  fused_idle : (es : List Event) → fed_all o es idle ≡ view (collect_all o [] es)
  unfolding view
  fused_idle es = sym (fused [] es)

  pub fusion : (es : List Event) → Fusion o es
  fusion es =
      record {
        run = ap (closed o) (fused_idle es) ∙ closed_view (collect_all o [] es);
        need = ap (λ (F : Fused). F.note.peak) (fused_idle es) ∙ peak_view (collect_all o [] es);
      }
