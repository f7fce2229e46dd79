-- Laws of types, of their texts and of the meaning of bytes.
use Rattle.std.specs.Prelude.{◌≡◌, ◌≤◌, ◌<◌, ◌↔◌, ℕ, ◌+◌, ◌*◌, List, [], ◌++◌, length, Some, None, true, slice_get, option_map}
use Rattle.std.specs.List.{AllByRecursion}
use Rattle.gv_model.specs.Ty.{Ty, spelling}
use Rattle.gv_model.specs.TypeText.{type_of_text, is_within_limits}
use Rattle.gv_model.specs.TypeFault.{Fault, IsFault}
use Rattle.gv_model.specs.Tree.{Tree, default, children, tree_at, trees_len, nodes}
use Rattle.gv_model.specs.Typed.{HasType}
use Rattle.gv_model.specs.Children.{Child, child_bytes}
use Rattle.gv_model.specs.Decode.{decode, cut, tree_with}
use Rattle.gv_model.specs.Parts.{Part, parts, part_at, subtree_at}
use Rattle.gv_model.specs.Encode.{encode, packed}
use Rattle.gv_model.specs.Normal.{IsContainer, IsPartEncoded, IsEncoded, IsNormal}
use Rattle.gv_model.specs.EarlierReading.{earlier_tree_with, earlier_decode, WasNormal}

-- no type's text begins another's
abbrev pub NoTypeBeginsAnother : Type 0
NoTypeBeginsAnother = (t u : Ty) (x y : List ℕ) → spelling t ++ x ≡ spelling u ++ y → (t ≡ u) × (x ≡ y)

-- a text has a type exactly where it is that type's spelling, within the limits
abbrev pub HasTypeWhereSpelled : Type 0
HasTypeWhereSpelled = (w : List ℕ) (t : Ty) → (type_of_text w ≡ Some t) ↔ ((spelling t ≡ w) × (is_within_limits t w ≡ true))

-- a text with a fault has no type
abbrev pub FaultsAreOfNoType : Type 0
FaultsAreOfNoType = (w : List ℕ) (f : Fault) → IsFault w f → type_of_text w ≡ None

-- a text has no other fault
abbrev pub HasOneFault : Type 0
HasOneFault = (w : List ℕ) (f g : Fault) → IsFault w f → IsFault w g → f ≡ g

-- no bytes read as the default
abbrev pub EmptyReadsAsDefault : Type 0
EmptyReadsAsDefault = (t : Ty) → decode t [] ≡ default t

-- whatever bytes are read at a type, the value is of that type
abbrev pub ReadsAtType : Type 0
ReadsAtType = (t : Ty) (b : List ℕ) → AllByRecursion (λ x. x < 256) b → HasType (decode t b) t

-- f gives of each value the tree over what it gives of its children
abbrev pub IsReading : (Ty → List ℕ → Tree) → Type 0
IsReading f = (t : Ty) (b : List ℕ) → f t b ≡ tree_with (λ c. f c.type (child_bytes b c)) t b

-- `decode` is the one reading
abbrev pub IsOnlyReading : Type 0
IsOnlyReading = (f : Ty → List ℕ → Tree) → IsReading f → (t : Ty) (b : List ℕ) → f t b ≡ decode t b

-- a value has as many children as its bytes are cut into
abbrev pub HasChildrenOfCut : Type 0
HasChildrenOfCut = (t : Ty) (b : List ℕ) → trees_len (children (decode t b)) ≡ length (cut t b)

-- child i of a value is the value of child i
abbrev pub ChildIsRead : Type 0
ChildIsRead = (t : Ty) (b : List ℕ) (i : ℕ)
    → tree_at (children (decode t b)) i ≡ option_map (λ c. decode c.type (child_bytes b c)) (slice_get (cut t b) i)

-- a child lies within n bytes
pub record LiesWithin (n : ℕ) (c : Child) : Type 0 where
  pub ordered : c.from ≤ c.to
  pub inside : c.to ≤ n

-- each child lies within its container's bytes
abbrev pub ChildrenLieWithin : Type 0
ChildrenLieWithin = (t : Ty) (b : List ℕ) (i : ℕ) (c : Child) → slice_get (cut t b) i ≡ Some c → LiesWithin (length b) c

-- what lies in a value where children are followed is the value of what lies there in its bytes
abbrev pub EveryPartIsRead : Type 0
EveryPartIsRead = (p : Part) (is : List ℕ) → subtree_at (decode p.0 p.1) is ≡ option_map (λ q. decode q.0 q.1) (part_at p is)

-- what is written for a value of a type is read as that value
abbrev pub WrittenReadsBack : Type 0
WrittenReadsBack = (t : Ty) (v : Tree) → HasType v t → decode t (encode v) ≡ v

-- a container's bytes are written so exactly where its parts' are, and they are packed of these
abbrev pub ContainerIsPacked : Type 0
ContainerIsPacked = (t : Ty) (b : List ℕ) → AllByRecursion (λ x. x < 256) b → IsContainer t
    → IsEncoded t b ↔ (AllByRecursion IsPartEncoded (parts t b) × (b ≡ packed t (parts t b)))

-- how many values n bytes have at the most at a type of t bytes
abbrev pub most_values : ℕ → ℕ → ℕ
most_values n t = (n + 1) * (n + 2 * t)

-- n bytes at a type whose text has t bytes have at most (n + 1)(n + 2t) values in them
abbrev pub HasFewValues : Type 0
HasFewValues = (t : Ty) (b : List ℕ) → nodes (decode t b) ≤ most_values (length b) (length (spelling t))

-- f gives of each value the tree over what it gives of its children, each by its own bounds
abbrev pub IsEarlierReading : (Ty → List ℕ → Tree) → Type 0
IsEarlierReading f = (t : Ty) (b : List ℕ) → f t b ≡ earlier_tree_with (λ c. f c.type (child_bytes b c)) t b

-- `earlier_decode` is the one such reading
abbrev pub IsOnlyEarlierReading : Type 0
IsOnlyEarlierReading = (f : Ty → List ℕ → Tree) → IsEarlierReading f → (t : Ty) (b : List ℕ) → f t b ≡ earlier_decode t b

-- the same bytes are normal as before
abbrev pub AsNormalAsEarlier : Type 0
AsNormalAsEarlier = (t : Ty) (b : List ℕ) → AllByRecursion (λ x. x < 256) b → IsNormal t b ↔ WasNormal t b

-- they have the same value as before
abbrev pub NormalReadsAsEarlier : Type 0
NormalReadsAsEarlier = (t : Ty) (b : List ℕ) → AllByRecursion (λ x. x < 256) b → IsEncoded t b → earlier_decode t b ≡ decode t b
