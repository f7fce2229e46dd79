-- Numbers, by the letter of the type that is asked for.
use Rattle.std.specs.Prelude.{◌≡◌, ◌⊎◌, ◌==◌, ℕ, List, IsSome, None, Option, Some, if◌then◌else◌, length}
use Rattle.gv_model.specs.Ty.{Basic, letter}
use Rattle.gv_model.specs.BasicValue.{number_in}
use Rattle.gv_model.specs.Ty.Ty.{basic}
use Rattle.gv_model.specs.Ty.Basic.{handle, int32}
use Rattle.gv_model.specs.Tree.Tree.{number}
use Rattle.gv_model.specs.Layout.{basic_size}
use Rattle.gv_model.specs.TypeText.{TypeMark, type_of_text}
use Rattle.gv_model.specs.TypeText.TypeMark.{letter as mark_of}
use Rattle.gv_model.specs.Decode.{decode}
use Rattle.gv_types.specs.Classes.{basic_type}
use Rattle.gv_types.specs.declared.class.BasicType.{BasicType}

-- the type's own letter asks for it, and an index of a file descriptor is an int32 too
abbrev pub IsAskedBy : Basic → ℕ → Type 0
IsAskedBy k asked = (letter k ≡ asked) ⊎ ((k ≡ handle) × (letter int32 ≡ asked))

-- the text spells a type of numbers, which this letter asks for
abbrev pub IsTypeOf : List ℕ → ℕ → Basic → Type 0
IsTypeOf type_text asked k = (type_of_text type_text ≡ Some (basic k)) × (IsSome (basic_size k) × IsAskedBy k asked)

abbrev pub IsNumberType : List ℕ → ℕ → Type 0
IsNumberType type_text asked = (k : Basic) × IsTypeOf type_text asked k

-- the bytes are this number at it
abbrev pub IsNumber : List ℕ → List ℕ → ℕ → ℕ → Type 0
IsNumber type_text bytes asked n = (k : Basic) × (IsTypeOf type_text asked k × (decode (basic k) bytes ≡ number k n))

-- ---- words of private parts

-- a letter asks for numbers of the type of this one
abbrev pub IsAskedAs : ℕ → ℕ → Type 0
IsAskedAs own asked = (own ≡ asked) ⊎ ((own ≡ letter handle) × (asked ≡ letter int32))

-- the type of numbers that a mark stands for
abbrev pub sized_type : Basic → Option ℕ → Option BasicType
sized_type k (Some size) = Some (basic_type k)
sized_type k None = None

abbrev pub number_type : TypeMark → Option BasicType
number_type (mark_of k) = sized_type k (basic_size k)
number_type _ = None

-- the number in so many bytes; 0 where there are others
abbrev pub sized : ℕ → List ℕ → ℕ
sized size b = if length b == size then number_in b else 0
