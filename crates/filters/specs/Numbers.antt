-- The numbers of the attributes' names: their places in `attribute_names`.
use Rattle.std.specs.Prelude.{ℕ}

abbrev pub hidden : ℕ
hidden = 1

abbrev pub rel : ℕ
rel = 2

abbrev pub itemprop : ℕ
itemprop = 3

abbrev pub aria_hidden : ℕ
aria_hidden = 4

abbrev pub aria_expanded : ℕ
aria_expanded = 5

abbrev pub class : ℕ
class = 6

abbrev pub id : ℕ
id = 7

abbrev pub style : ℕ
style = 8

abbrev pub role : ℕ
role = 9

abbrev pub data_ad : ℕ
data_ad = 10

abbrev pub data_advertisement : ℕ
data_advertisement = 11

abbrev pub data_text_ad : ℕ
data_text_ad = 12
