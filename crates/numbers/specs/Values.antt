-- Answers that have more than the four numbers.
use Rattle.std.specs.Prelude.{cond, ℕ, Float, Option, None, Some, Result, Ok, Err}
use Rattle.std.specs.Float.{binary64}
use Rattle.std.specs.Float.Ieee.{of_bits}
use Rattle.links.specs.Links.{exceeds}
use Rattle.links.specs.Questions as links
use Rattle.links.specs.declared.Measure.{Measure}
use Rattle.links.specs.declared.Measure.TheVariants.{NoText, TooLong, NoLinks, Share}
use Rattle.links.specs.declared.Rule.{Rule}
use Rattle.links.specs.declared.questions.MeasureError.{MeasureError}
use Rattle.tree.specs.Attributes.{numbers}
use Rattle.tree.specs.declared.attributes.Span.{Span}
use Rattle.tree.specs.declared.questions.QuestionError.{QuestionError}
use Rattle.numbers.specs.declared.values.LinkMeasure.{LinkMeasure}
use Rattle.numbers.specs.declared.values.Range.{Range}

-- an attribute that is there, perhaps empty, is told from one that is not
abbrev pub present_of : Result (Option Span) QuestionError → ℕ
present_of (Ok (Some value)) = 1
present_of (Ok None) = 0
present_of (Err e) = 0

-- where its value starts in the pool
abbrev pub start_of : Result (Option Span) QuestionError → ℕ
start_of (Ok (Some value)) = value.at
start_of (Ok None) = 0
start_of (Err e) = 0

abbrev pub range_of : Result (Option Span) QuestionError → Range
range_of found = record { answer = numbers found; present = present_of found; at = start_of found }

-- a cluster rule (document 01, module 4)
abbrev pub rule_of : Float → ℕ → Rule
rule_of ratio limit = record { ratio = ratio; limit = limit }

abbrev pub no_share : Float
no_share = of_bits binary64 0

-- the share, and 0 where there is none
abbrev pub share_in : Measure → Float
share_in NoText = no_share
share_in TooLong = no_share
share_in NoLinks = no_share
share_in (Share share) = share

abbrev pub share_of : Result Measure MeasureError → Float
share_of (Ok m) = share_in m
share_of (Err e) = no_share

-- "It must exceed the ratio": 1 where it does
abbrev pub yes_in : Rule → Measure → ℕ
yes_in rule m = cond (exceeds rule m) 1 0

abbrev pub yes_of : Rule → Result Measure MeasureError → ℕ
yes_of rule (Ok m) = yes_in rule m
yes_of rule (Err e) = 0

abbrev pub link_measure_of : Rule → Result Measure MeasureError → LinkMeasure
link_measure_of rule found = record { answer = links.numbers found; exceeds = yes_of rule found; share = share_of found }
