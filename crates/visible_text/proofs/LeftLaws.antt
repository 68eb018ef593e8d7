-- A function that writes for another that writes the same; and a loop that writes: what is left to do, done from here on, gives what the
-- whole
-- gives.
use mathlib.Core.Path.{◌≡◌, sym, subst, ◌∙◌}
use mathlib.Core.Bool.{Bool}
use Prim.Native.Nat.{ℕ}
use lib.ListN.{length}
use Rattle.common.specs.Bytes.{Bytes}
use Rattle.writer.specs.Out.{Out}
use Rattle.writer.specs.Writing.{HeldBy, ReadyBy, DoesBy}
use Rattle.writer.specs.declared.Writer.{Writer}
use Rattle.writer.proofs.DoesLaws.{Grows, does_none, does_by, ready_by, ready_first}

module _ {blank : ℕ → Bool} {write : Bool} {w : Writer} {buf : Bytes} {F : Out → Out} where
  pub ready_as : {G : Out → Out} → ((o : Out) → F o ≡ G o) → ReadyBy blank write w buf F → ReadyBy blank write w buf G
  ready_as e r = ready_by r (λ under o h. e o)

  pub does_as : {G : Out → Out} {w' : Writer} {buf' : Bytes} → ((o : Out) → F o ≡ G o) → DoesBy blank write w buf w' buf' G
      → DoesBy blank write w buf w' buf' F
  does_as e d = does_by d (λ under o h. sym (e o))

  -- where nothing is done
  pub does_keep : ((o : Out) → F o ≡ o) → DoesBy blank write w buf w buf F
  does_keep e = does_as e (does_none write w buf)

module _ (blank : ℕ → Bool) (write : Bool) where
  -- the whole is F, and G is left of it
  pub record Left (w₀ : Writer) (buf₀ : Bytes) (F : Out → Out) (w : Writer) (buf : Bytes) (G : Out → Out) : Type 0 where
    pub run : (under : Bytes) (o : Out) → HeldBy blank write under w₀ buf₀ o → (o' : Out) × HeldBy blank write under w buf o' × (G o' ≡ F o)

module _ {blank : ℕ → Bool} {write : Bool} where
  pub left_start : {w : Writer} {buf : Bytes} {F : Out → Out} (G : Out → Out) → ((o : Out) → G o ≡ F o) → Left blank write w buf F w buf G
  left_start G e = record { run = λ under o h. (o, h, e o) }

  module _ {w₀ w : Writer} {buf₀ buf : Bytes} {F G : Out → Out} (g : Left blank write w₀ buf₀ F w buf G) where
    -- H is done, and K is left
    pub left_more : {w' : Writer} {buf' : Bytes} {H : Out → Out} (K : Out → Out) → DoesBy blank write w buf w' buf' H
        → ((o : Out) → G o ≡ K (H o))
        → Left blank write w₀ buf₀ F w' buf' K
    left_more K d e = record { run = λ under o h. let k = g.run under o h in (_, d.run under k.0 k.1, sym (e k.0) ∙ k.2) }

    pub left_ready : ReadyBy blank write w₀ buf₀ F → ReadyBy blank write w buf G
    left_ready r =
        let k = g.run r.under r.out r.held in
        record { under = r.under; out = k.0; held = k.1; room = rw k.2 r.room }

    -- there is room for H, where K comes after it
    pub left_part : (H K : Out → Out) → ((o : Out) → G o ≡ K (H o)) → Grows K → ReadyBy blank write w₀ buf₀ F → ReadyBy blank write w buf H
    left_part H K e rises r = ready_first {F = H} {G = K} rises (ready_by (left_ready r) (λ under o h. e o))

    pub left_end : {w' : Writer} {buf' : Bytes} → DoesBy blank write w buf w' buf' G → DoesBy blank write w₀ buf₀ w' buf' F
    left_end {w'} {buf'} d =
        record {
          run = λ under o h. let k = g.run under o h in subst (HeldBy blank write under w' buf') k.2 (d.run under k.0 k.1);
        }

    -- nothing is left
    pub left_done : ((o : Out) → G o ≡ o) → DoesBy blank write w₀ buf₀ w buf F
    left_done e = record {
      run = λ under o h. let k = g.run under o h in subst (HeldBy blank write under w buf) (sym (e k.0) ∙ k.2)
          k.1;
    }

    pub left_length : ReadyBy blank write w₀ buf₀ F → length buf ≡ length buf₀
    left_length r = let k = g.run r.under r.out r.held in k.1.long ∙ sym r.held.long
