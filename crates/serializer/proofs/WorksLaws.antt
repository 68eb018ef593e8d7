-- One part of a step after another: what they do, and that room for the whole is room for each part.
use mathlib.Core.Path.{◌≡◌, sym, subst}
use mathlib.Core.Bool.{Bool, cond}
use mathlib.Core.List.{List}
use Prim.Native.Nat.{ℕ, ◌≤◌}
use native.Mathlib.Omega.{arith}
use Rattle.common.specs.Bytes.{Bytes}
use Rattle.common.proofs.Choice.{by_cond}
use Rattle.html2text.specs.Serialize.{State, on_out}
use Rattle.writer.specs.Out.{Out}
use Rattle.writer.specs.Writing.{Held, Room, Ready, Does}
use Rattle.writer.specs.declared.Writer.{Writer}
use Rattle.writer.proofs.DoesLaws.{Grows}
use Rattle.serializer.specs.Serializing.{set_writer, Lent, lent, Stands, Able, Works, AbleOut, WorksAlone, WorksOut}
use Rattle.serializer.specs.declared.Serializer.{Serializer}
use Rattle.serializer.proofs.StandsLaws.{stands_out}

-- ---- what never makes the greatest length less

pub record Rises (F : State → State) : Type 0 where
  pub rise : (S : State) → S.out.peak ≤ (F S).out.peak

pub rises_none : Rises (λ S. S)
rises_none = record { rise = λ S. omega arith }

pub rises_then : {F G : State → State} → Rises F → Rises G → Rises (λ S. G (F S))
rises_then {F} f g = record { rise = λ S. omega (arith, f.rise S, g.rise (F S)) }

pub rises_cond : {F G : State → State} (t : State → Bool) → Rises F → Rises G → Rises (λ S. cond (t S) (F S) (G S))
rises_cond t f g = record { rise = λ S. by_cond (λ (T : State). S.out.peak ≤ T.out.peak) (t S) (λ e. f.rise S) (λ e. g.rise S) }

-- what looks at the state and changes the text alone
pub rises_out : (F : State → Out → Out) → ((S : State) → Grows (F S)) → Rises (λ S. on_out (F S) S)
rises_out F g = record { rise = λ S. (g S).grow S.out }

-- ---- nothing, and one after another

pub works_none : {write : Bool} {s : Serializer} {a : Lent} → Works write s a s a (λ S. S)
works_none = record { run = λ under S h. h }

module _ {write : Bool} {s s' : Serializer} {a a' : Lent} {F : State → State} (d : Works write s a s' a' F) where
  pub works_then : {s'' : Serializer} {a'' : Lent} {G : State → State} → Works write s' a' s'' a'' G → Works write s a s'' a'' (λ S. G (F S))
  works_then e = record { run = λ under S h. e.run under _ (d.run under S h) }

  -- what is known of the state may be used
  pub works_by : {G : State → State} → ((under : Bytes) (S : State) → Stands write under s a S → F S ≡ G S) → Works write s a s' a' G
  works_by e = record { run = λ under S h. subst (Stands write under s' a') (e under S h) (d.run under S h) }

  pub able_then : {G : State → State} → Able write s a (λ S. G (F S)) → Able write s' a' G
  able_then r = record { under = r.under; state = _; stands = d.run r.under r.state r.stands; room = r.room }

module _ {write : Bool} {s : Serializer} {a : Lent} {F G : State → State} where
  pub able_first : Rises G → Able write s a (λ S. G (F S)) → Able write s a F
  able_first g r =
      let le = g.rise (F r.state) in
      record { under = r.under; state = r.state; stands = r.stands; room = record { small = omega (arith, r.room.small); fits = λ e. omega (arith, r.room.fits e) } }

  pub able_by : Able write s a F → ((under : Bytes) (S : State) → Stands write under s a S → F S ≡ G S) → Able write s a G
  able_by r e =
      record { under = r.under; state = r.state; stands = r.stands; room = subst (λ (S : State). Room write r.under S.out.peak) (e r.under r.state r.stands) r.room }

-- ---- of functions that are lent the text alone

module _ {write : Bool} {s : Serializer} {out : Bytes} where
  pub able_out : {numbering : List ℕ} {cells : List Bool} {F : State → State} → Able write s (lent numbering cells out) F → AbleOut write s out F
  able_out r = record { numbering = _; cells = _; able = r }

  pub out_none : WorksOut write s out s out (λ S. S)
  out_none = record { at = λ numbering cells. works_none }

  pub out_alone : {s' : Serializer} {F : State → State} → WorksAlone s s' F → WorksOut write s out s' out F
  out_alone d = record { at = λ numbering cells. d.at write (lent numbering cells out) }

  module _ {F G : State → State} where
    pub out_first : Rises G → AbleOut write s out (λ S. G (F S)) → AbleOut write s out F
    out_first g r = able_out (able_first g r.able)

    pub out_able_by : AbleOut write s out F → ((numbering : List ℕ) (cells : List Bool) (under : Bytes) (S : State) → Stands write under s (lent numbering cells out) S → F S ≡ G S) → AbleOut write s out G
    out_able_by r e = able_out (able_by r.able (e r.numbering r.cells))

    module _ {s' : Serializer} {out' : Bytes} (d : WorksOut write s out s' out' F) where
      pub out_able : AbleOut write s out (λ S. G (F S)) → AbleOut write s' out' G
      out_able r = record { numbering = r.numbering; cells = r.cells; able = able_then (d.at r.numbering r.cells) r.able }

      pub out_then : {s'' : Serializer} {out'' : Bytes} → WorksOut write s' out' s'' out'' G → WorksOut write s out s'' out'' (λ S. G (F S))
      out_then e = record { at = λ numbering cells. works_then (d.at numbering cells) (e.at numbering cells) }

      pub out_by : ((numbering : List ℕ) (cells : List Bool) (under : Bytes) (S : State) → Stands write under s (lent numbering cells out) S → F S ≡ G S) → WorksOut write s out s' out' G
      out_by e = record { at = λ numbering cells. works_by (d.at numbering cells) (e numbering cells) }

  -- the same function said otherwise
  module _ {F G : State → State} (e : (S : State) → F S ≡ G S) where
    pub out_able_as : AbleOut write s out F → AbleOut write s out G
    out_able_as r = out_able_by r (λ numbering cells under S h. e S)

    pub out_as : {s' : Serializer} {out' : Bytes} → WorksOut write s out s' out' G → WorksOut write s out s' out' F
    out_as d = out_by d (λ numbering cells under S h. sym (e S))

  -- the text alone is changed, in a way that is known from the numbers
  module _ (F : State → Out → Out) {f : Out → Out} (e : (under : Bytes) (a : Lent) (S : State) → Stands write under s a S → F S S.out ≡ f S.out) where
    pub text_ready : AbleOut write s out (λ S. on_out (F S) S) → Ready write s.writer out f
    text_ready r =
        let k = r.able in
        record { under = k.under; out = k.state.out; held = k.stands.held; room = subst (λ (o : Out). Room write k.under o.peak) (e k.under _ k.state k.stands) k.room }

    pub text_works : {w : Writer} {out' : Bytes} → Does write s.writer out w out' f → WorksOut write s out (set_writer w s) out' (λ S. on_out (F S) S)
    text_works {w} {out'} d =
        record { at = λ numbering cells. record { run = λ under S h. stands_out h (subst (Held write under w out') (sym (e under _ S h)) (d.run under S.out h.held)) } }

-- ---- what is known of the state's margins, of the numbers
pub margins_after : {write : Bool} {s s' : Serializer} {a a' : Lent} {F G : State → State} → ((S : State) → (F S).margins ≤ S.margins) → Able write s a G → Works write s a s' a' F → s'.margins ≤ s.margins
margins_after le r d = omega (arith, le r.state, (d.run r.under r.state r.stands).margins, r.stands.margins)
