-- Worked examples, those of the request among them.
use Rattle.std.specs.Prelude.{◌≡◌, List, [], ◌∷◌, map, ℕ, length, replicate}
use Prim.Native.String.{String}
use Rattle.common.specs.Answer.{Answer, refused, written}
use Rattle.common.specs.Bytes.{Bytes, codes, padded}
use Rattle.common.specs.Refusals.{no_entity, unescape_out_too_short}
use Rattle.unescape.specs.Answers.{unescaped_in, unescaped_out, numbers}

-- a text, an output of `room` bytes 0x23, the answer and the output after it
pub record Example : Type 0 where
  pub text : Bytes
  pub room : ℕ
  pub answer : Answer
  pub out : Bytes

abbrev gives : Bytes → ℕ → Bytes → Example
gives s room t = record { text = s; room = room; answer = written (length t); out = padded t room }

abbrev is_refused : String → ℕ → Answer → Example
is_refused s room answer = record { text = codes s; room = room; answer = answer; out = replicate room 0x23 }

unfoldable pub examples : List Example
unfolding codes
examples =
    gives (codes "&quot;&lt;&gt;&amp;") 4 (0x22 ∷ codes "<>&")
    ∷ gives (codes "&amp;lt;") 6 (codes "&lt;")
    ∷ gives (codes "&amp;amp;amp;") 9 (codes "&amp;amp;")
    ∷ gives (codes "a&amp;b") 3 (codes "a&b")
    ∷ gives (codes "<b>amp;</b>") 11 (codes "<b>amp;</b>")
    ∷ gives (0xff ∷ 0x00 ∷ codes "&gt;") 5 (0xff ∷ 0x00 ∷ codes ">")
    ∷ gives [] 2 []
    ∷ gives [] 0 []
    ∷ is_refused "a&amp;b" 2 (refused unescape_out_too_short 3)
    ∷ is_refused "&gt;" 0 (refused unescape_out_too_short 1)
    ∷ is_refused "&amp;&x;" 9 (refused no_entity 5)
    ∷ is_refused "aaaa&" 0 (refused no_entity 4)
    ∷ is_refused "&&amp;" 3 (refused no_entity 0)
    ∷ is_refused "&amp" 4 (refused no_entity 0)
    ∷ is_refused "&AMP;" 4 (refused no_entity 0)
    ∷ is_refused "&#38;" 4 (refused no_entity 0)
    ∷ is_refused "&apos;" 4 (refused no_entity 0)
    ∷ []

-- what the call says and leaves
abbrev called : Example → Answer × Bytes
called e = (numbers (unescaped_in e.text e.room), unescaped_out e.text (replicate e.room 0x23))

abbrev expected : Example → Answer × Bytes
expected e = (e.answer, e.out)

abbrev pub ExamplesRight : Type 0
ExamplesRight = map called examples ≡ map expected examples
