-- Element names: `is_block` of html2text.rs, and the names that `collect` and `serialize` tell apart, as numbers.
use Rattle.std.specs.Prelude.{◌≡◌, Bool, true, ◌&&◌, ◌||◌, cond, List, [], ◌∷◌, map, ℕ, ◌-◌, eqb, leb, get_or}
use Rattle.common.specs.Bytes.{Bytes, codes}
use Rattle.tags.specs.Numbers.{tr, cell, ul, ol, li, pre, br, h1, h4, p, article, div, footer, table, a, textarea, img, area, button, input}
use Rattle.tags.specs.Words.{words, is, one_of, number_of}

-- `is_block`
unfoldable pub is_block : Bytes → Bool
is_block name =
    one_of name (words "address article aside blockquote br center details dd dt div dl fieldset figcaption figure footer form h1 h2 h3 h4 h5 h6 header hgroup hr li main nav ol p pre section table tr ul")

-- all names that are told apart, "th" with "td"; those of blocks are 1 and 3 to 36
unfoldable pub tag_names : List Bytes
tag_names =
    words "tr td ul ol li pre br h1 h2 h3 h4 h5 h6 p address article aside blockquote center details dd dt div dl fieldset figcaption figure footer form header hgroup hr main nav section table a textarea img area button input"

-- the number of a name, and 0 for one that is not told apart
unfoldable pub tag_of : Bytes → ℕ
tag_of name = number_of (cond (is name "th") (codes "td") name) tag_names

-- the name of a number
unfoldable pub name_of : ℕ → Bytes
name_of t = get_or tag_names (t - 1) []

-- `n.tag == "tr"` and so on, on numbers
abbrev pub is_tr : ℕ → Bool
is_tr t = eqb t tr

-- `matches!(n.tag.as_str(), "td" | "th")`
abbrev pub is_cell : ℕ → Bool
is_cell t = eqb t cell

abbrev pub is_ul : ℕ → Bool
is_ul t = eqb t ul

abbrev pub is_ol : ℕ → Bool
is_ol t = eqb t ol

-- `matches!(n.tag.as_str(), "ul" | "ol")`
abbrev pub is_list : ℕ → Bool
is_list t = is_ul t || is_ol t

abbrev pub is_li : ℕ → Bool
is_li t = eqb t li

abbrev pub is_pre : ℕ → Bool
is_pre t = eqb t pre

abbrev pub is_br : ℕ → Bool
is_br t = eqb t br

-- `matches!(n.tag.as_str(), "h1" | "h2" | "h3" | "h4" | "h5" | "h6" | "p")`
abbrev pub is_heading_or_p : ℕ → Bool
is_heading_or_p t = leb h1 t && leb t p

-- `matches!(name.as_str(), "p" | "h1" | "h2" | "h3" | "h4")`
abbrev pub is_big_block : ℕ → Bool
is_big_block t = (leb h1 t && leb t h4) || eqb t p

abbrev pub is_block_tag : ℕ → Bool
is_block_tag t = is_tr t || (leb ul t && leb t table)

abbrev pub is_a : ℕ → Bool
is_a t = eqb t a

abbrev pub is_textarea : ℕ → Bool
is_textarea t = eqb t textarea

-- `matches!(name.as_str(), "img" | "area")`
abbrev pub is_image : ℕ → Bool
is_image t = eqb t img || eqb t area

abbrev pub is_button : ℕ → Bool
is_button t = eqb t button

abbrev pub is_input : ℕ → Bool
is_input t = eqb t input

-- those that filters.rs tells apart besides
abbrev pub is_article : ℕ → Bool
is_article t = eqb t article

abbrev pub is_div : ℕ → Bool
is_div t = eqb t div

abbrev pub is_footer : ℕ → Bool
is_footer t = eqb t footer

-- `matches!(name.as_str(), "a" | "div" | "li")`
abbrev pub is_a_div_or_li : ℕ → Bool
is_a_div_or_li t = is_a t || (is_div t || is_li t)

-- what is to be shown: each number is that of its name
abbrev pub NumbersOfNames : Type 0
NumbersOfNames =
    map tag_of (words "tr td th ul ol li pre br h1 h4 p article div footer table a textarea img area button input")
    ≡ tr ∷ cell ∷ cell ∷ ul ∷ ol ∷ li ∷ pre ∷ br ∷ h1 ∷ h4 ∷ p ∷ article ∷ div ∷ footer ∷ table ∷ a ∷ textarea ∷ img ∷ area ∷ button ∷ input ∷ []

-- what is to be shown: each test on the number says what the Rust's test on the name says
pub record TagTests (name : Bytes) : Type 0 where
  pub tr : is_tr (tag_of name) ≡ is name "tr"
  pub cell : is_cell (tag_of name) ≡ one_of name (words "td th")
  pub ul : is_ul (tag_of name) ≡ is name "ul"
  pub ol : is_ol (tag_of name) ≡ is name "ol"
  pub list : is_list (tag_of name) ≡ one_of name (words "ul ol")
  pub li : is_li (tag_of name) ≡ is name "li"
  pub pre : is_pre (tag_of name) ≡ is name "pre"
  pub br : is_br (tag_of name) ≡ is name "br"
  pub heading_or_p : is_heading_or_p (tag_of name) ≡ one_of name (words "h1 h2 h3 h4 h5 h6 p")
  pub big_block : is_big_block (tag_of name) ≡ one_of name (words "p h1 h2 h3 h4")
  pub block : is_block_tag (tag_of name) ≡ is_block name
  pub a : is_a (tag_of name) ≡ is name "a"
  pub textarea : is_textarea (tag_of name) ≡ is name "textarea"
  pub image : is_image (tag_of name) ≡ one_of name (words "img area")
  pub button : is_button (tag_of name) ≡ is name "button"
  pub input : is_input (tag_of name) ≡ is name "input"
  pub article : is_article (tag_of name) ≡ is name "article"
  pub div : is_div (tag_of name) ≡ is name "div"
  pub footer : is_footer (tag_of name) ≡ is name "footer"
  pub a_div_or_li : is_a_div_or_li (tag_of name) ≡ one_of name (words "a div li")
  -- the names that are written
  pub written : (is_heading_or_p (tag_of name) || is_list (tag_of name)) ≡ true → name_of (tag_of name) ≡ name

-- of every name
abbrev pub TagsTellNames : Type 0
TagsTellNames = (name : Bytes) → TagTests name
