-- The steps of a regex mean the regex; where the regexes of a program begin; a step by its place and by its number.
use mathlib.Core.Path.{◌≡◌, refl, sym, ap, ◌∙◌}
use mathlib.Core.Bool.{cond}
use mathlib.Core.List.{List, [], ◌∷◌, ◌++◌, map, append_assoc}
use Prim.Native.Nat.{ℕ, zero, suc, ◌+◌, ◌*◌, ◌/◌, ◌%◌, ◌≤◌, ◌<◌}
use native.Mathlib.Nat.{zero-add, suc-add, add-zero, add-suc}
use native.Mathlib.Numerals.{add-one}
use native.Mathlib.Omega.{arith}
use lib.Arith.{digits_div, digits_mod}
use lib.Dec.{T, eqb, lit<}
use lib.ListN.{length, get_or, drop, length-append, length-drop}
use lib.Seq.{get_or-drop}
use Rattle.common.specs.Bytes.{Bytes}
use Rattle.byte_regex.specs.Regex.{Class, Regex, exactly, letter, any_blank, any_dash, any_separator, any_hex_digit, nothing, one, many, ◌then◌, ◌or◌, optional, at_start, at_end}
use Rattle.byte_regex.specs.Match.{Test, always, either, fit}
use Rattle.byte_regex.specs.Steps.{Step, take, repeat, fork, skip, first, last, done, compile, program, start_of, class_code, encode, steps_left, stays_among, stay_inside}
use Rattle.byte_regex.specs.Meaning.{never, ahead, mean, means, test_at, holds, class_of, step_of_kind, step_of, steps_of}
use Rattle.byte_regex.proofs.MatchLaws.{and_left, and_right}

-- ---- meanings of compiled expressions
means_behind : (a p : List Step) (n : ℕ) → ahead (means (a ++ p)) (length a + n) ≡ ahead (means p) n
unfolding means
means_behind [] p n = ap (ahead (means p)) (zero-add n)
means_behind (s ∷ a) p n = ap (ahead (means (s ∷ (a ++ p)))) (suc-add (length a) n) ∙ means_behind a p n

means_past : (a p : List Step) → ahead (means (a ++ p)) (length a) ≡ ahead (means p) 0
means_past a p = ap (ahead (means (a ++ p))) (sym (add-zero (length a))) ∙ means_behind a p 0

means_next : (a p : List Step) → ahead (means (a ++ p)) (suc (length a)) ≡ ahead (means p) 1
means_next a p = ap (ahead (means (a ++ p))) (sym (add-one (length a))) ∙ means_behind a p 1

compiled : (r : Regex) (p : List Step) → ahead (means (compile r ++ p)) 0 ≡ fit r (ahead (means p) 0)
unfolding means compile fit
compiled nothing p = refl
compiled (one c) p = refl
compiled (many c) p = refl
compiled (a then b) p =
    ap (λ (q : List Step). ahead (means q) 0) (append_assoc (compile a) (compile b) p)
    ∙ compiled a (compile b ++ p) ∙ ap (fit a) (compiled b p)
compiled (a or b) p =
    let q : List Step = skip (length (compile b)) ∷ (compile b ++ p) in
    let whole : (compile a ++ (skip (length (compile b)) ∷ compile b)) ++ p ≡ compile a ++ q = append_assoc (compile a) (skip (length (compile b)) ∷ compile b) p in
    ap (λ (l : List Step). either (ahead (means l) 0) (ahead (means l) (suc (length (compile a))))) whole
    ∙ (λ i. either ((compiled a q ∙ ap (fit a) (means_past (compile b) p)) i) ((means_next (compile a) q ∙ compiled b p) i))
compiled (optional a) p = λ i. either (compiled a p i) (means_past (compile a) p i)
compiled at_start p = refl
compiled at_end p = refl

-- ---- where the regexes begin
pub start_means : (rs : List Regex) (p : ℕ) → p < length rs → ahead (means (program rs)) (start_of rs p) ≡ fit (get_or rs p nothing) always
unfolding start_of program means
start_means [] p h = absurd (omega arith)
start_means (r ∷ rs) zero h = compiled r (done ∷ program rs)
start_means (r ∷ rs) (suc p) h =
    ap (ahead (means (compile r ++ (done ∷ program rs)))) (suc-add (length (compile r)) (start_of rs p) ∙ sym (add-suc (length (compile r)) (start_of rs p)))
    ∙ means_behind (compile r) (done ∷ program rs) (suc (start_of rs p)) ∙ start_means rs p (omega arith)

pub start_inside : (rs : List Regex) (p : ℕ) → p < length rs → start_of rs p < length (program rs)
unfolding start_of program
start_inside [] p h = absurd (omega arith)
start_inside (r ∷ rs) zero h = simp length-append (omega arith)
start_inside (r ∷ rs) (suc p) h = let l = start_inside rs p (omega arith) in simp length-append (omega arith)

-- ---- a step by its place
means_at : (p : List Step) (i : ℕ) → i < length p → ahead (means p) i ≡ mean (get_or p i done) (drop (suc i) (means p))
unfolding means
means_at [] i h = absurd (omega arith)
means_at (s ∷ p) zero h = refl
means_at (s ∷ p) (suc i) h = means_at p i (omega arith)

-- the meanings behind step i
abbrev pub later : List Step → ℕ → List Test
later p i = drop (suc i) (means p)

pub step_holds : (p : List Step) (i : ℕ) → i < length p → (s : Bytes) (at : ℕ) → holds p i s at ≡ test_at (mean (get_or p i done) (later p i)) s at
unfolding holds
step_holds p i h s at = ap (λ (k : Test). test_at k s at) (means_at p i h)

pub later_holds : (p : List Step) (i n : ℕ) (s : Bytes) (at : ℕ) → test_at (ahead (later p i) n) s at ≡ holds p (i + 1 + n) s at
unfolding holds
later_holds p i n s at =
    let e : suc i + n ≡ i + 1 + n = omega arith in
    ap (λ (k : Test). test_at k s at) (get_or-drop (suc i) (means p) n never ∙ ap (ahead (means p)) e)

left_le : (p : List Step) → steps_left p ≤ length p
unfolding steps_left
left_le [] = omega arith
left_le (take c ∷ p) = let h = left_le p in omega arith
left_le (repeat c ∷ p) = let h = left_le p in omega arith
left_le (fork n ∷ p) = let h = left_le p in omega arith
left_le (skip n ∷ p) = let h = left_le p in omega arith
left_le (first ∷ p) = let h = left_le p in omega arith
left_le (last ∷ p) = let h = left_le p in omega arith
left_le (done ∷ p) = omega arith

pub inside_at : (p : List Step) → T (stay_inside p) → (i : ℕ) → i < length p → T (stays_among (steps_left (drop (suc i) p)) (get_or p i done))
unfolding stay_inside
inside_at [] t i h = absurd (omega arith)
inside_at (s ∷ p) t zero h = and_left (stays_among (steps_left p) s) (stay_inside p) t
inside_at (s ∷ p) t (suc i) h = inside_at p (and_right (stays_among (steps_left p) s) (stay_inside p) t) i (omega arith)

-- how far a successor may stand behind step i
pub inside_table : (p : List Step) (i : ℕ) → i < length p → (n : ℕ) → n < steps_left (drop (suc i) p) → i + 1 + n < length p
inside_table p i h n l = omega (arith, left_le (drop (suc i) p), length-drop (suc i) p)

-- ---- a step by its number
four_more : (n : ℕ) → n + 4 ≡ suc (suc (suc (suc n)))
four_more n = omega arith

five_more : (n : ℕ) → n + 5 ≡ suc (suc (suc (suc (n + 1))))
five_more n = omega arith

class_of_more : (n c r : ℕ) → n % 2 ≡ r → n / 2 ≡ c → class_of (suc (suc (suc (suc n)))) ≡ cond (eqb r 0) (exactly c) (letter c)
class_of_more n c r e f = λ z. cond (eqb (e z) 0) (exactly (f z)) (letter (f z))

class_back : (c : Class) → class_of (class_code c) ≡ c
class_back any_blank = refl
class_back any_dash = refl
class_back any_separator = refl
class_back any_hex_digit = refl
class_back (exactly c) = ap class_of (four_more (c * 2)) ∙ class_of_more (c * 2) c 0 (omega arith) (omega arith)
class_back (letter c) = ap class_of (five_more (c * 2)) ∙ class_of_more (c * 2 + 1) c 1 (omega arith) (omega arith)

unpacked : (a k : ℕ) → k < 8 → step_of (a * 8 + k) ≡ step_of_kind k a
unpacked a k h = λ z. step_of_kind (digits_mod a h z) (digits_div a h z)

step_back : (s : Step) → step_of (encode s) ≡ s
unfolding encode
step_back (take c) = unpacked (class_code c) 0 (lit< tt) ∙ ap take (class_back c)
step_back (repeat c) = unpacked (class_code c) 1 (lit< tt) ∙ ap repeat (class_back c)
step_back (fork n) = unpacked n 2 (lit< tt)
step_back (skip n) = unpacked n 3 (lit< tt)
step_back first = refl
step_back last = refl
step_back done = refl

pub decoded : (p : List Step) → steps_of (map encode p) ≡ p
decoded [] = refl
decoded (s ∷ p) = λ z. step_back s z ∷ decoded p z
