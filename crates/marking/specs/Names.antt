-- The names of the elements that `extract_plain_text` of html2text.rs takes out below the root, under its options.
use Rattle.std.specs.Prelude.{Bool, cond, List, [], ◌++◌}
use Rattle.common.specs.Bytes.{Bytes}
use Rattle.options.specs.declared.ExtractOptions.{ExtractOptions}
use Rattle.tags.specs.Words.{words}

-- `selectors.extend(["script", "style", "iframe", "frame", "template"])`
abbrev pub always : List Bytes
always = words "script style iframe frame template"

-- `if !opts.alt_texts`: `selectors.extend(["object", "video", ..])`
abbrev pub media : List Bytes
media = words "object video audio embed img area svg figcaption figure"

-- `if !opts.noscript`: `selectors.push("noscript")`
abbrev pub scriptless : List Bytes
scriptless = words "noscript"

-- `if !opts.form_fields`: `selectors.extend(["textarea", "input", ..])`
abbrev pub fields : List Bytes
fields = words "textarea input button select option label"

abbrev pub unless : Bool → List Bytes → List Bytes
unless kept names = cond kept [] names

-- `selectors`, of which each is a bare name
abbrev pub skip_names : ExtractOptions → Bool → List Bytes
skip_names o noscript = always ++ (unless o.alt_texts media ++ (unless noscript scriptless ++ unless o.form_fields fields))
