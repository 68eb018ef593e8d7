-- The list that a name stands in.
use Rattle.std.specs.Prelude.{cond, List}
use Rattle.common.specs.Bytes.{Bytes}
use Rattle.tags.specs.Words.{words, one_of}
use Rattle.marking.specs.Names.{always, media, scriptless, fields}
use Rattle.marking.specs.declared.names.SkipList.{SkipList}
use Rattle.marking.specs.declared.names.SkipList.TheVariants.{Always, Media, Noscript, Fields, Unlisted}

unfoldable pub list_of : Bytes → SkipList
list_of name =
    cond (one_of name always) Always
    (cond (one_of name media) Media
    (cond (one_of name scriptless) Noscript
    (cond (one_of name fields) Fields
    Unlisted)))

-- the names of up to 7 bytes in the four lists
abbrev pub short_names : List Bytes
short_names = words "script style iframe frame object video audio embed img area svg figure input button select option label"
