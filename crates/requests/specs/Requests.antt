-- What the arguments of the program ask for. Assumes nothing.
use Rattle.std.specs.Prelude.{ℕ, List, [], ◌∷◌, ltb, bytes_eq}
use Rattle.vertex_set.specs.Alternatives.{provided, ◌or_else◌}
use Rattle.requests.specs.declared.Request.{Request}
use Rattle.requests.specs.declared.Request.TheVariants.{Groups, Help, Version, Unknown}

-- `--help`, `--version`
abbrev pub help_argument : List ℕ
help_argument = 0x2d ∷ 0x2d ∷ 0x68 ∷ 0x65 ∷ 0x6c ∷ 0x70 ∷ []

abbrev pub version_argument : List ℕ
version_argument = 0x2d ∷ 0x2d ∷ 0x76 ∷ 0x65 ∷ 0x72 ∷ 0x73 ∷ 0x69 ∷ 0x6f ∷ 0x6e ∷ []

-- there are so many arguments, the program's name among them, and `first` stands behind the name: where nothing stands there, the groups
-- are asked for; where one argument does, what it names
unfoldable pub requested : ℕ → List ℕ → Request
requested count first =
    provided (ltb count 2) Groups or_else
    provided (ltb 2 count) Unknown or_else
    provided (bytes_eq first help_argument) Help or_else
    provided (bytes_eq first version_argument) Version or_else
    Unknown
