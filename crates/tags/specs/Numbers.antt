-- The numbers of the names that the definitions tell apart; `cell` is td and th.
use Rattle.std.specs.Prelude.{ℕ}

abbrev pub tr : ℕ
tr = 1

abbrev pub cell : ℕ
cell = 2

abbrev pub ul : ℕ
ul = 3

abbrev pub ol : ℕ
ol = 4

abbrev pub li : ℕ
li = 5

abbrev pub pre : ℕ
pre = 6

abbrev pub br : ℕ
br = 7

abbrev pub h1 : ℕ
h1 = 8

abbrev pub h4 : ℕ
h4 = 11

abbrev pub p : ℕ
p = 14

abbrev pub article : ℕ
article = 16

abbrev pub div : ℕ
div = 23

abbrev pub footer : ℕ
footer = 28

abbrev pub table : ℕ
table = 36

abbrev pub a : ℕ
a = 37

abbrev pub textarea : ℕ
textarea = 38

abbrev pub img : ℕ
img = 39

abbrev pub area : ℕ
area = 40

abbrev pub button : ℕ
button = 41

abbrev pub input : ℕ
input = 42
