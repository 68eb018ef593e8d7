-- One function that writes after another: what they do, and that room for the whole is room for each part. All over any set of blanks.
use mathlib.Core.Path.{◌≡◌, sym, subst}
use mathlib.Core.Bool.{Bool, cond}
use mathlib.Core.List.{[], ◌++◌}
use Prim.Native.Nat.{ℕ, ◌≤◌}
use native.Mathlib.Omega.{arith}
use Rattle.common.specs.Bytes.{Bytes}
use Rattle.common.proofs.Choice.{by_cond}
use Rattle.writer.specs.Out.{Out, push_all, strip_by}
use Rattle.writer.specs.Writing.{HeldBy, Room, ReadyBy, DoesBy}
use Rattle.writer.specs.declared.Writer.{Writer}
use Rattle.writer.proofs.OutLaws.{push_all_append, push_all_rises}

-- ---- what never makes the greatest length less

pub record Grows (F : Out → Out) : Type 0 where
  pub grow : (o : Out) → o.peak ≤ (F o).peak

pub grows_none : Grows (λ o. o)
grows_none = record { grow = λ o. omega arith }

pub grows_push_all : (s : Bytes) → Grows (push_all s)
grows_push_all s = record { grow = push_all_rises s }

pub grows_strip : (blank : ℕ → Bool) → Grows (strip_by blank)
unfolding strip_by
grows_strip blank = record { grow = λ o. omega arith }

pub grows_then : {F G : Out → Out} → Grows F → Grows G → Grows (λ o. G (F o))
grows_then {F} a b = record { grow = λ o. omega (arith, a.grow o, b.grow (F o)) }

pub grows_cond : {F G : Out → Out} (t : Out → Bool) → Grows F → Grows G → Grows (λ o. cond (t o) (F o) (G o))
grows_cond t f g = record { grow = λ o. by_cond (λ (x : Out). o.peak ≤ x.peak) (t o) (λ e. f.grow o) (λ e. g.grow o) }

module _ {blank : ℕ → Bool} where
  -- ---- nothing, and one after another

  pub does_none : (write : Bool) (w : Writer) (buf : Bytes) → DoesBy blank write w buf w buf (λ o. o)
  does_none write w buf = record { run = λ under o h. h }

  pub does_then : {write : Bool} {w w' w'' : Writer} {buf buf' buf'' : Bytes} {F G : Out → Out}
      → DoesBy blank write w buf w' buf' F → DoesBy blank write w' buf' w'' buf'' G → DoesBy blank write w buf w'' buf'' (λ o. G (F o))
  does_then d e = record { run = λ under o h. e.run under _ (d.run under o h) }

  -- room for F and then G is room for F, and after F room for G
  pub ready_first : {write : Bool} {w : Writer} {buf : Bytes} {F G : Out → Out} → Grows G → ReadyBy blank write w buf (λ o. G (F o))
      → ReadyBy blank write w buf F
  ready_first {F} {G} g r =
      let le = g.grow (F r.out) in
      record {
        under = r.under;
        out = r.out;
        held = r.held;
        room = record { small = omega (arith, r.room.small); fits = λ e. omega (arith, r.room.fits e) };
      }

  pub ready_then : {write : Bool} {w w' : Writer} {buf buf' : Bytes} {F G : Out → Out}
      → DoesBy blank write w buf w' buf' F → ReadyBy blank write w buf (λ o. G (F o)) → ReadyBy blank write w' buf' G
  ready_then d r = record { under = r.under; out = _; held = d.run r.under r.out r.held; room = r.room }

  -- ---- what is known of the text may be used

  pub does_by : {write : Bool} {w w' : Writer} {buf buf' : Bytes} {F G : Out → Out}
      → DoesBy blank write w buf w' buf' F → ((under : Bytes) (o : Out) → HeldBy blank write under w buf o → F o ≡ G o)
      → DoesBy blank write w buf w' buf' G
  does_by {write} {w} {w'} {buf} {buf'} d e =
      record { run = λ under o h. subst (HeldBy blank write under w' buf') (e under o h) (d.run under o h) }

  pub ready_by : {write : Bool} {w : Writer} {buf : Bytes} {F G : Out → Out}
      → ReadyBy blank write w buf F → ((under : Bytes) (o : Out) → HeldBy blank write under w buf o → F o ≡ G o)
      → ReadyBy blank write w buf G
  ready_by {write} r e =
      record {
        under = r.under;
        out = r.out;
        held = r.held;
        room = subst (λ (o : Out). Room write r.under o.peak) (e r.under r.out r.held) r.room;
      }

  -- ---- the same bytes

  module _ {write : Bool} {w : Writer} {buf s t : Bytes} (e : s ≡ t) where
    pub ready_same : ReadyBy blank write w buf (push_all s) → ReadyBy blank write w buf (push_all t)
    ready_same r = subst (λ (l : Bytes). ReadyBy blank write w buf (push_all l)) e r

    pub does_same : {w' : Writer} {buf' : Bytes} → DoesBy blank write w buf w' buf' (push_all t)
        → DoesBy blank write w buf w' buf' (push_all s)
    does_same {w'} {buf'} d = subst (λ (l : Bytes). DoesBy blank write w buf w' buf' (push_all l)) (sym e) d

  pub does_nothing : {write : Bool} {w : Writer} {buf s : Bytes} → s ≡ [] → DoesBy blank write w buf w buf (push_all s)
  unfolding push_all
  does_nothing {write} {w} {buf} e = does_same e (does_none write w buf)

  -- a run that is written in two parts
  module _ {write : Bool} {w : Writer} {buf : Bytes} (s t : Bytes) where
    pub does_append : {w' w'' : Writer} {buf' buf'' : Bytes} → DoesBy blank write w buf w' buf' (push_all s)
        → DoesBy blank write w' buf' w'' buf'' (push_all t) → DoesBy blank write w buf w'' buf'' (push_all (s ++ t))
    does_append d e = does_by (does_then d e) (λ under o h. sym (push_all_append s t o))

    pub ready_left : ReadyBy blank write w buf (push_all (s ++ t)) → ReadyBy blank write w buf (push_all s)
    ready_left r = ready_first (grows_push_all t) (ready_by r (λ under o h. push_all_append s t o))

    pub ready_right : {w' : Writer} {buf' : Bytes} → DoesBy blank write w buf w' buf' (push_all s)
        → ReadyBy blank write w buf (push_all (s ++ t)) → ReadyBy blank write w' buf' (push_all t)
    ready_right d r = ready_then d (ready_by r (λ under o h. push_all_append s t o))
