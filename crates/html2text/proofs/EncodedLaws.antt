-- The text of an extraction is UTF-8.
use mathlib.Core.Path.{sym, subst}
use mathlib.Core.List.{List, [], ◌∷◌}
use lib.Dec.{lit≤}
use Rattle.options.specs.declared.ExtractOptions.{ExtractOptions}
use Rattle.sheet.proofs.Acceptance.{accepts}
use Rattle.tree.specs.Page.{page_of}
use Rattle.utf8.specs.Abnf.{UTF8_octets, none}
use Rattle.html2text.specs.Bounds.{Going}
use Rattle.html2text.specs.Collect.{Entry}
use Rattle.html2text.specs.Encoded.{TextIsUtf8}
use Rattle.html2text.specs.Extract.{serialized, hidden, filtered_by}
use Rattle.html2text.proofs.EncodedBytes.{octets_rstrip}
use Rattle.html2text.proofs.EncodedPage.{Utf8Entries, page_octets, collected_octets}
use Rattle.html2text.proofs.EncodedSteps.{Encoded, step_encoded}
use Rattle.html2text.proofs.GivenLaws.{gives_sheet, gives_text}
use Rattle.html2text.proofs.GoingLaws.{going_at, going_taken}

serialized_encoded : (o : ExtractOptions) (es : List Entry) → Utf8Entries es → Going Encoded (serialized o es)
unfolding serialized
serialized_encoded o [] h = (none, none)
serialized_encoded o (e ∷ before) h =
    going_taken Encoded Encoded o.formatting o.list_bullets e (serialized o before)
    (λ S a b k. step_encoded o.formatting o.list_bullets e.node h.0 S k) (serialized_encoded o before h.1)

pub text_is_utf8 : TextIsUtf8
text_is_utf8 filters s o out work t g =
    let sheet = gives_sheet filters g in
    let l = sheet.layout in
    let p = page_of s l in
    let x = gives_text filters l sheet.is_sheet g in
    let es = page_octets (accepts (lit≤ tt) sheet.is_sheet).1 (hidden (filtered_by filters p o) p o) in
    let k = going_at Encoded (serialized_encoded o _ (collected_octets o [] _ es tt)) x.run in
    subst UTF8_octets (sym x.text) (octets_rstrip k.0)
