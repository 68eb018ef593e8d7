-- `put_byte` meets its contract.
use mathlib.Core.Path.{sym, ap, ◌∙◌}
use mathlib.Core.Bool.{Bool, ◌&&◌, cond}
use mathlib.Core.List.{[], ◌∷◌}
use Prim.Native.Nat.{ℕ}
use Rattle.writer.proofs.PlacesLaws.{stored_nothing, room_as, stored_as, kept_other, byte_dropped, byte_stays}
use Rattle.writer.proofs.TimesLaws.{is_escaped_true, is_escaped_false}
use Rattle.writer.proofs.texts.put_byte.Goals as goal

pub put_special-requires : goal.put_special-requires
put_special-requires c = let e = is_escaped_true c.args.times c.args.b (sym c.is_escaped.ensures ∙ c.if-is_escaped.true) in (e.0, room_as (kept_other _ _ _ _ e.1) c.requires.1)

pub returns-then-is_escaped : goal.returns-then-is_escaped
returns-then-is_escaped c = stored_as (kept_other _ _ _ _ (is_escaped_true c.args.times c.args.b (sym c.is_escaped.ensures ∙ c.if-is_escaped.true)).1) c.put_special.ensures

pub returns-then-is_dropped : goal.returns-then-is_dropped
returns-then-is_dropped c = stored_as (byte_dropped _ _ _ _ (rw c.requires.0 at (sym c.is_dropped.ensures ∙ c.if-is_dropped.true))) stored_nothing

pub put_one-requires : goal.put_one-requires
put_one-requires c = let a = c.args in room_as (byte_stays _ _ _ _ (is_escaped_false c.args.times c.args.b (sym c.is_escaped.ensures ∙ c.if-is_escaped.false)) (rw c.requires.0 at (sym c.is_dropped.ensures ∙ c.if-is_dropped.false)) ∙ ap (λ (x : ℕ). x ∷ []) (sym (c.squeezed.ensures ∙ ap (λ (q : Bool). cond (a.squeeze && q) 32 a.b) c.requires.0))) c.requires.1

pub returns : goal.returns
returns c = let a = c.args in stored_as (byte_stays _ _ _ _ (is_escaped_false c.args.times c.args.b (sym c.is_escaped.ensures ∙ c.if-is_escaped.false)) (rw c.requires.0 at (sym c.is_dropped.ensures ∙ c.if-is_dropped.false)) ∙ ap (λ (x : ℕ). x ∷ []) (sym (c.squeezed.ensures ∙ ap (λ (q : Bool). cond (a.squeeze && q) 32 a.b) c.requires.0))) c.put_one.ensures
