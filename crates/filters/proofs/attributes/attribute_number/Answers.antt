-- `attributes::attribute_number` meets its contract.
use mathlib.Core.Path.{refl}
use native.Mathlib.Omega.{arith}
use mathlib.Core.Bool.{not, ◌||◌}
use mathlib.Core.List.{[]}
use lib.Dec.{eqb}
use lib.ListN.{length}
use borrow.Author.Tests.{ne_eqb}
use Rattle.common.specs.Bytes.{codes, same}
use Rattle.tags.specs.Words.{words, first_word, other_words, one_of, number_from}
use Rattle.tags.proofs.WordLaws.{none_of_none}
use Rattle.filters.specs.Gathered.{attribute_names, attribute_number}
use Rattle.filters.proofs.AttributeLaws.{number_if, number_none}
use Rattle.filters.proofs.attributes.attribute_number.Goals as goal

pub returns-in-2 : goal.returns-in-2
unfolding attribute_number attribute_names words first_word other_words codes number_from one_of same
returns-in-2 c = number_if 2 (codes "id") refl refl c.args.name.now c.in-2.is c.number_if.ensures

pub returns-in-3 : goal.returns-in-3
unfolding attribute_number attribute_names words first_word other_words codes number_from one_of same
returns-in-3 c = number_if 3 (codes "rel") refl refl c.args.name.now c.in-3.is c.number_if-in-3.ensures

pub returns-in-4 : goal.returns-in-4
unfolding attribute_number attribute_names words first_word other_words codes number_from one_of same
returns-in-4 c = number_if 4 (codes "role") refl refl c.args.name.now c.in-4.is c.number_if-in-4.ensures

pub returns-in-6 : goal.returns-in-6
unfolding attribute_number attribute_names words first_word other_words codes number_from one_of same
returns-in-6 c = number_if 6 (codes "hidden") refl refl c.args.name.now c.in-6.is c.number_if-in-6.ensures

pub returns-in-7 : goal.returns-in-7
unfolding attribute_number attribute_names words first_word other_words codes number_from one_of same
returns-in-7 c = number_if 7 (codes "data-ad") refl refl c.args.name.now c.in-7.is c.number_if-in-7.ensures

pub returns-in-8 : goal.returns-in-8
unfolding attribute_number attribute_names words first_word other_words codes number_from one_of same
returns-in-8 c = number_if 8 (codes "itemprop") refl refl c.args.name.now c.in-8.is c.number_if-in-8.ensures

pub returns-in-11 : goal.returns-in-11
unfolding attribute_number attribute_names words first_word other_words codes number_from one_of same
returns-in-11 c = number_if 11 (codes "aria-hidden") refl refl c.args.name.now c.in-11.is c.number_if-in-11.ensures

pub returns-in-12 : goal.returns-in-12
unfolding attribute_number attribute_names words first_word other_words codes number_from one_of same
returns-in-12 c = number_if 12 (codes "data-text-ad") refl refl c.args.name.now c.in-12.is c.number_if-in-12.ensures

pub returns-in-13 : goal.returns-in-13
unfolding attribute_number attribute_names words first_word other_words codes number_from one_of same
returns-in-13 c = number_if 13 (codes "aria-expanded") refl refl c.args.name.now c.in-13.is c.number_if-in-13.ensures

pub returns-in-18 : goal.returns-in-18
unfolding attribute_number attribute_names words first_word other_words codes number_from one_of same
returns-in-18 c = number_if 18 (codes "data-advertisement") refl refl c.args.name.now c.in-18.is c.number_if-in-18.ensures

pub returns-in_default : goal.returns-in_default
unfolding attribute_number attribute_names words first_word other_words codes number_from one_of same
returns-in_default c =
    let s = c.args.name.now in
    number_none (λ n. not (eqb n 2 || (eqb n 3 || (eqb n 4 || (eqb n 5 || (eqb n 6 || (eqb n 7 || (eqb n 8 || (eqb n 11 || (eqb n 12 || (eqb n 13 || (eqb n 18)))))))))))) [] refl s
    (simp (
      ne_eqb (length s) 2 (λ e. grind arith),
      ne_eqb (length s) 3 (λ e. grind arith),
      ne_eqb (length s) 4 (λ e. grind arith),
      ne_eqb (length s) 5 (λ e. grind arith),
      ne_eqb (length s) 6 (λ e. grind arith),
      ne_eqb (length s) 7 (λ e. grind arith),
      ne_eqb (length s) 8 (λ e. grind arith),
      ne_eqb (length s) 11 (λ e. grind arith),
      ne_eqb (length s) 12 (λ e. grind arith),
      ne_eqb (length s) 13 (λ e. grind arith),
      ne_eqb (length s) 18 (λ e. grind arith),
    ))
    (none_of_none s)
