-- Operations on numbers that are made on each of their bytes by itself.
use mathlib.Core.Path.{◌≡◌, refl, sym, ap, ◌∙◌}
use mathlib.Core.Bool.{Bool, true, false, ◌||◌, not}
use mathlib.Core.List.{[], ◌∷◌}
use Prim.Native.Nat.{ℕ, zero, suc, ◌+◌, ◌*◌, ◌/◌, ◌%◌, ◌^◌, ◌<◌}
use native.Mathlib.Nat.{pow-suc}
use native.Mathlib.Omega.{arith}
use lib.Bits.{bit_and, bit_or, bit_xor, and_block, or_block, xor_block, and_lt, or_lt, xor_lt, mask_lt}
use lib.ListN.{length, get_or}
use Rattle.common.specs.Bytes.{Bytes}
use Rattle.common.specs.Lanes.{lanes, Each}
use Rattle.common.specs.Word.{octets}
use Rattle.common.proofs.Choice.{absurd_test}
use Rattle.common.proofs.Every.{every, every_at}

abbrev Small : (ℕ → ℕ) → Type 0
Small f = (b : ℕ) → b < 256 → f b < 256

-- ---- of any number of bytes

module _ (op : ℕ → ℕ → ℕ) (none : op 0 0 ≡ 0)
    (block : (k a b r s : ℕ) → r < 2 ^ k → s < 2 ^ k → op (a * 2 ^ k + r) (b * 2 ^ k + s) ≡ op a b * 2 ^ k + op r s)
    (f g : ℕ → ℕ) (f_small : Small f) (g_small : Small g) where
  lanes_op : (k w : ℕ) → op (lanes f k w) (lanes g k w) ≡ lanes (λ b. op (f b) (g b)) k w
  unfolding lanes
  lanes_op zero w = none
  lanes_op (suc k) w =
      block 8 _ _ (f (w % 256)) (g (w % 256)) (f_small (w % 256) (omega arith)) (g_small (w % 256) (omega arith))
      ∙ ap (λ (x : ℕ). x * 256 + op (f (w % 256)) (g (w % 256))) (lanes_op k (w / 256))

lanes_add : (f g : ℕ → ℕ) (k w : ℕ) → lanes f k w + lanes g k w ≡ lanes (λ b. f b + g b) k w
unfolding lanes
lanes_add f g zero w = refl
lanes_add f g (suc k) w = omega (arith, lanes_add f g k (w / 256))

small_step : (a b p : ℕ) → a < p → b < 256 → a * 256 + b < p * 256
small_step a b p h l = omega arith

lanes_small : (f : ℕ → ℕ) → Small f → (k w : ℕ) → lanes f k w < 256 ^ k
unfolding lanes
lanes_small f h zero w = omega arith
lanes_small f h (suc k) w =
    rw (pow-suc 256 k) (small_step (lanes f k (w / 256)) (f (w % 256)) (256 ^ k) (lanes_small f h k (w / 256)) (h (w % 256) (omega arith)))

high_small : (w p : ℕ) → w < p * 256 → w / 256 < p
high_small w p h = omega arith

lanes_self : (k w : ℕ) → w < 256 ^ k → w ≡ lanes (λ b. b) k w
unfolding lanes
lanes_self zero w h = omega arith
lanes_self (suc k) w h = let e = lanes_self k (w / 256) (high_small w (256 ^ k) (rw (pow-suc 256 k) at h)) in omega arith

pub lanes_shift : (f : ℕ → ℕ) → Small f → (k w : ℕ) → lanes f (suc k) w / 256 ≡ lanes f k (w / 256)
unfolding lanes
lanes_shift f h k w = let l = h (w % 256) (omega arith) in omega arith

lanes_ext : (f g : ℕ → ℕ) → ((b : ℕ) → b < 256 → f b ≡ g b) → (k w : ℕ) → lanes f k w ≡ lanes g k w
unfolding lanes
lanes_ext f g h zero w = refl
lanes_ext f g h (suc k) w = rw (lanes_ext f g h k (w / 256), h (w % 256) (omega arith))

digits_same : (a b c d : ℕ) → b < 256 → d < 256 → a * 256 + b ≡ c * 256 + d → (b ≡ d) × (a ≡ c)
digits_same a b c d h l e = (omega arith, omega arith)

lanes_same : (f g : ℕ → ℕ) → Small f → Small g → (k w : ℕ) → lanes f k w ≡ lanes g k w → Each (λ b. f b ≡ g b) (octets k w)
unfolding lanes octets
lanes_same f g h l zero w e = tt
lanes_same f g h l (suc k) w e =
    let p = digits_same _ (f (w % 256)) _ (g (w % 256)) (h (w % 256) (omega arith)) (l (w % 256) (omega arith)) e in
    (p.0, lanes_same f g h l k (w / 256) p.1)

pub each_at : (P : ℕ → Type 0) (s : Bytes) → Each P s → (k : ℕ) → k < length s → P (get_or s k 0)
each_at P [] e k h = absurd (omega arith)
each_at P (c ∷ s) e zero h = e.0
each_at P (c ∷ s) e (suc k) h = each_at P s e.1 k (omega arith)

pub each_octet : {P Q : ℕ → Type 0} → ((b : ℕ) → b < 256 → P b → Q b) → (k w : ℕ) → Each P (octets k w) → Each Q (octets k w)
unfolding octets
each_octet f zero w h = tt
each_octet f (suc k) w h = (f (w % 256) (omega arith) h.0, each_octet f k (w / 256) h.1)

-- ---- of eight bytes: x has f of each byte of w

pub record Laned (f : ℕ → ℕ) (w x : ℕ) : Type 0 where
  pub whole : x ≡ lanes f 8 w
  pub small : (b : ℕ) → b < 256 → f b < 256

module _ {f : ℕ → ℕ} {w x : ℕ} (p : Laned f w x) where
  pub laned_small : x < 0x10000000000000000
  laned_small = rw p.whole (lanes_small f p.small 8 w)

  pub laned_ext : (g : ℕ → ℕ) → ((b : ℕ) → b < 256 → f b ≡ g b) → x ≡ lanes g 8 w
  laned_ext g h = p.whole ∙ lanes_ext f g h 8 w

  module _ {g : ℕ → ℕ} {y : ℕ} (q : Laned g w y) where
    pub laned_and : Laned (λ b. bit_and (f b) (g b)) w (bit_and x y)
    laned_and =
        record {
          whole = rw (p.whole, q.whole) (lanes_op bit_and refl and_block f g p.small q.small 8 w);
          small = λ b h. and_lt 8 (f b) (g b) (p.small b h) (q.small b h);
        }

    pub laned_or : Laned (λ b. bit_or (f b) (g b)) w (bit_or x y)
    laned_or =
        record {
          whole = rw (p.whole, q.whole) (lanes_op bit_or refl or_block f g p.small q.small 8 w);
          small = λ b h. or_lt 8 (f b) (g b) (p.small b h) (q.small b h);
        }

    pub laned_xor : Laned (λ b. bit_xor (f b) (g b)) w (bit_xor x y)
    laned_xor =
        record {
          whole = rw (p.whole, q.whole) (lanes_op bit_xor refl xor_block f g p.small q.small 8 w);
          small = λ b h. xor_lt 8 (f b) (g b) (p.small b h) (q.small b h);
        }

    pub laned_add : ((b : ℕ) → b < 256 → f b + g b < 256) → Laned (λ b. f b + g b) w (x + y)
    laned_add s = record { whole = rw (p.whole, q.whole) (lanes_add f g 8 w); small = s }

    pub laned_same : x ≡ y → Each (λ b. f b ≡ g b) (octets 8 w)
    laned_same e = lanes_same f g p.small q.small 8 w (sym p.whole ∙ e ∙ q.whole)

pub laned_self : (w : ℕ) → w < 0x10000000000000000 → Laned (λ b. b) w w
laned_self w h = record { whole = lanes_self 8 w h; small = λ b l. l }

-- eight equal bytes
pub laned_all : (w c : ℕ) → c < 256 → Laned (λ b. c) w (c * 0x0101010101010101)
unfolding lanes
laned_all w c h = record { whole = omega arith; small = λ b l. h }

-- ---- a rule for each byte, by a test of all

abbrev pub implies : Bool → Bool → Bool
implies a b = not a || b

pub implied : (a b : Bool) → implies a b ≡ true → a ≡ true → b ≡ true
implied true b e h = e
implied false b e h = absurd_test h refl

pub each_byte : (test : ℕ → Bool) → every test 0 256 ≡ true → (b : ℕ) → b < 256 → test b ≡ true
each_byte test e b h = every_at test 0 256 e b (omega arith) (omega arith)

-- ---- which bytes are not c: the highest bit of each byte of a number says so, of bytes below 0x80

abbrev pub low : ℕ → ℕ
low b = bit_and b 0x7f

-- that b is not c, of two below 0x80
abbrev pub differs : ℕ → ℕ → ℕ
differs c b = bit_xor b c + 0x7f

pub low_small : (b : ℕ) → low b < 2 ^ 7
low_small b = mask_lt b 7

pub differs_small : (c b : ℕ) → c < 2 ^ 7 → b < 2 ^ 7 → differs c b < 256
differs_small c b h l = omega (arith, xor_lt 7 b c l h)

-- the same on eight bytes

abbrev pub lows : ℕ → ℕ
lows w = bit_and w 0x7f7f7f7f7f7f7f7f

abbrev pub differences : ℕ → ℕ → ℕ
differences c x = bit_xor x (c * 0x0101010101010101) + 0x7f7f7f7f7f7f7f7f

module _ (w : ℕ) (h : w < 0x10000000000000000) where
  pub lows_are : Laned low w (lows w)
  lows_are = laned_and (laned_self w h) (laned_all w 0x7f (omega arith))

  pub differs_sum : (c : ℕ) → c < 2 ^ 7 → Laned (λ b. differs c (low b)) w (differences c (lows w))
  differs_sum c l =
      laned_add (laned_xor lows_are (laned_all w c (omega arith))) (laned_all w 0x7f (omega arith))
      (λ b k. differs_small c (low b) l (low_small b))
