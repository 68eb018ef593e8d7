-- The options of an extraction (document 01, "Options").
use Rattle.std.specs.Prelude.{Bool, true, false, cond, ℕ, eqb}
use Rattle.options.specs.declared.ExtractOptions.{ExtractOptions}
use Rattle.options.specs.declared.Formatting.{Formatting}
use Rattle.options.specs.declared.Formatting.TheVariants.{Off, Basic, MinimalHtml}

-- `opts.formatting == Formatting::Off`, and so on
abbrev pub is_off : Formatting → Bool
is_off Off = true
is_off Basic = false
is_off MinimalHtml = false

abbrev pub is_basic : Formatting → Bool
is_basic Off = false
is_basic Basic = true
is_basic MinimalHtml = false

abbrev pub is_minimal_html : Formatting → Bool
is_minimal_html Off = false
is_minimal_html Basic = false
is_minimal_html MinimalHtml = true

-- ---- the options that are on or off

pub data Flag : Type 0 where
  main_content list_bullets alt_texts links form_fields comments post_meta hidden_elements icons missing_alt : Flag

-- the place of its digit in the option line, behind formatting
abbrev pub place : Flag → ℕ
place main_content = 1
place list_bullets = 2
place alt_texts = 3
place links = 4
place form_fields = 5
place comments = 6
place post_meta = 7
place hidden_elements = 8
place icons = 9
place missing_alt = 10

abbrev pub is_on : ExtractOptions → Flag → Bool
is_on o main_content = o.main_content
is_on o list_bullets = o.list_bullets
is_on o alt_texts = o.alt_texts
is_on o links = o.links
is_on o form_fields = o.form_fields
is_on o comments = o.comments
is_on o post_meta = o.post_meta
is_on o hidden_elements = o.hidden_elements
is_on o icons = o.icons
is_on o missing_alt = o.missing_alt

abbrev pub options_by : Formatting → (Flag → Bool) → ExtractOptions
options_by formatting on =
    record {
      formatting = formatting;
      main_content = on main_content;
      list_bullets = on list_bullets;
      alt_texts = on alt_texts;
      links = on links;
      form_fields = on form_fields;
      comments = on comments;
      post_meta = on post_meta;
      hidden_elements = on hidden_elements;
      icons = on icons;
      missing_alt = on missing_alt;
    }

-- ---- the options with one set

abbrev pub with_formatting : Formatting → ExtractOptions → ExtractOptions
with_formatting f o = options_by f (is_on o)

abbrev pub with_flag : Flag → Bool → ExtractOptions → ExtractOptions
with_flag k b o = options_by o.formatting (λ f. cond (eqb (place f) (place k)) b (is_on o f))

abbrev pub with_main_content : Bool → ExtractOptions → ExtractOptions
with_main_content = with_flag main_content

abbrev pub with_list_bullets : Bool → ExtractOptions → ExtractOptions
with_list_bullets = with_flag list_bullets

abbrev pub with_alt_texts : Bool → ExtractOptions → ExtractOptions
with_alt_texts = with_flag alt_texts

abbrev pub with_links : Bool → ExtractOptions → ExtractOptions
with_links = with_flag links

abbrev pub with_form_fields : Bool → ExtractOptions → ExtractOptions
with_form_fields = with_flag form_fields

abbrev pub with_comments : Bool → ExtractOptions → ExtractOptions
with_comments = with_flag comments

abbrev pub with_post_meta : Bool → ExtractOptions → ExtractOptions
with_post_meta = with_flag post_meta

abbrev pub with_hidden_elements : Bool → ExtractOptions → ExtractOptions
with_hidden_elements = with_flag hidden_elements

abbrev pub with_icons : Bool → ExtractOptions → ExtractOptions
with_icons = with_flag icons

abbrev pub with_missing_alt : Bool → ExtractOptions → ExtractOptions
with_missing_alt = with_flag missing_alt

-- "The standing options are those of `ExtractOptions::default`", and our added ones off.
abbrev pub standing : ExtractOptions
standing = with_list_bullets true (with_alt_texts true (with_comments true (with_post_meta true (options_by Basic (λ f. false)))))
