-- The text of a class and an id.
use Rattle.std.specs.Prelude.{[], ◌∷◌, ◌++◌}
use Rattle.common.specs.Bytes.{Bytes}

-- `is_main_content`: `format!("{}{}{}", class, if class.is_empty() { "" } else { " " }, id)`
abbrev pub joined : Bytes → Bytes → Bytes
joined [] id = id
joined (c ∷ class) id = (c ∷ class) ++ 0x20 ∷ id
