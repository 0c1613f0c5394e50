-- A quoted text as bytes. Definitions only. Assumes nothing.
use Rattle.std.specs.Prelude.{ℕ, List, [] as nothing, ◌∷◌ as ◌before◌}
use Prim.Native.String.{String, [], ◌∷◌}
use Prim.Native.Char.{code}

-- the bytes of a text of ASCII characters
abbrev pub ascii : String → List ℕ
ascii [] = nothing
ascii (c ∷ s) = code c before ascii s
