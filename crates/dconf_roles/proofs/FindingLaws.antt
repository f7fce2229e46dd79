-- What is found is wrong, and what is wrong is found.
use Rattle.std.proofs.Common.{◌≡◌, ◌≢◌, ◌==◌, ◌⊎◌, inl, inr, Bool, true, false, not, refl}
use Rattle.std.specs.Prelude.{◌&&◌, ◌||◌, if◌then◌else◌, codes}
use Rattle.std.specs.Str.{bytes_eq}
use Rattle.dconf_roles.specs.declared.findings.Finding.{Finding}
use Rattle.dconf_roles.specs.declared.findings.Finding.TheVariants.{Nothing, NotTaken, OtherType, NoDatabase, SetTwice, NotSet, Double, NoValue, NoFile, OddFile, LargeFile, UnreadFile}
use Rattle.dconf_roles.specs.Findings.{NoAlarmIsFalse, is_key, is_value, may_be_there, may_have_file, missing}

-- by whether it is known, has a value, that is taken, is of the type; whether it may be there, and what is missing else
abbrev by : Bool → Bool → Bool → Bool → Bool → Finding → Finding
by known value taken typed there gone = if known then (if not value || taken then Nothing else if typed then NotTaken else OtherType) else if there then Nothing else gone

taken_by : (k v t y m : Bool) (gone : Finding) → k ≡ true → t ≡ true → by k v t y m gone ≡ Nothing
taken_by true true true y m gone a b = refl
taken_by true false t y m gone a b = refl
taken_by true true false y m gone a b = absurd (let bad : false ≡ true = b in cc)
taken_by false v t y m gone a b = absurd (let bad : false ≡ true = a in cc)

unset_by : (k v t y m : Bool) (gone : Finding) → k ≡ true → v ≡ false → by k v t y m gone ≡ Nothing
unset_by true false t y m gone a b = refl
unset_by true true t y m gone a b = absurd (let bad : true ≡ false = b in cc)
unset_by false v t y m gone a b = absurd (let bad : false ≡ true = a in cc)

untaken_by : (k v t y m : Bool) (gone : Finding) → k ≡ true → v ≡ true → t ≡ false → (by k v t y m gone ≡ NotTaken) ⊎ (by k v t y m gone ≡ OtherType)
untaken_by true true false true m gone a b c = inl refl
untaken_by true true false false m gone a b c = inr refl
untaken_by true true true y m gone a b c = absurd (let bad : true ≡ false = c in cc)
untaken_by true false t y m gone a b c = absurd (let bad : false ≡ true = b in cc)
untaken_by false v t y m gone a b c = absurd (let bad : false ≡ true = a in cc)

unknown_by : (k v t y m : Bool) (gone : Finding) → k ≡ false → m ≡ false → by k v t y m gone ≡ gone
unknown_by false v t y false gone a b = refl
unknown_by false v t y true gone a b = absurd (let bad : true ≡ false = b in cc)
unknown_by true v t y m gone a b = absurd (let bad : true ≡ false = a in cc)

elsewhere_by : (k v t y m : Bool) (gone : Finding) → k ≡ false → m ≡ true → by k v t y m gone ≡ Nothing
elsewhere_by false v t y true gone a b = refl
elsewhere_by false v t y false gone a b = absurd (let bad : false ≡ true = b in cc)
elsewhere_by true v t y m gone a b = absurd (let bad : true ≡ false = a in cc)

-- by whether it is there, is the system's, and the profile is that of a folder
abbrev named_by : Bool → Bool → Bool → Finding
named_by there system own = if there || not (system && own) then Nothing else NoDatabase

there_by : (there system own : Bool) → there ≡ true → named_by there system own ≡ Nothing
there_by true system own a = refl
there_by false system own a = absurd (let bad : false ≡ true = a in cc)

database_by : (there system own : Bool) → there ≡ false → system ≡ true → own ≡ true → named_by there system own ≡ NoDatabase
database_by false true true a b c = refl
database_by false true false a b c = absurd (let bad : false ≡ true = c in cc)
database_by false false own a b c = absurd (let bad : false ≡ true = b in cc)
database_by true system own a b c = absurd (let bad : true ≡ false = a in cc)

again_by : (known : Bool) → (if known then SetTwice else Nothing) ≡ SetTwice → known ≡ true
again_by true e = refl
again_by false e = absurd (let bad : Nothing ≡ SetTwice = e in cc)

first_by : (known : Bool) → known ≡ false → (if known then SetTwice else Nothing) ≡ Nothing
first_by false e = refl
first_by true e = absurd (let bad : true ≡ false = e in cc)

-- by whether it is set, nothing else is wrong, and it is a key
abbrev unset_if : Bool → Bool → Bool → Finding
unset_if known fine key = if not known && (fine && key) then NotSet else Nothing

set_by : (known fine key : Bool) → known ≡ true → unset_if known fine key ≡ Nothing
set_by true fine key e = refl
set_by false fine key e = absurd (let bad : false ≡ true = e in cc)

not_set_by : (known fine key : Bool) → known ≡ false → fine ≡ true → key ≡ true → unset_if known fine key ≡ NotSet
not_set_by false true true a b c = refl
not_set_by false true false a b c = absurd (let bad : false ≡ true = c in cc)
not_set_by false false key a b c = absurd (let bad : false ≡ true = b in cc)
not_set_by true fine key a b c = absurd (let bad : true ≡ false = a in cc)

-- by whether it is a value, and what is found of one
abbrev text_by : Bool → Finding → Finding
text_by value double = if not value then NoValue else double

none_by : (value : Bool) (double : Finding) → value ≡ false → text_by value double ≡ NoValue
none_by false double e = refl
none_by true double e = absurd (let bad : true ≡ false = e in cc)

double_by : (value : Bool) (double : Finding) → value ≡ true → text_by value double ≡ double
double_by true double e = refl
double_by false double e = absurd (let bad : false ≡ true = e in cc)

-- by whether it isn't there, is odd, or is too large
abbrev file_by : Bool → Bool → Bool → Finding
file_by gone odd large = if gone then NoFile else if odd then OddFile else if large then LargeFile else UnreadFile

is_there_by : (gone odd large : Bool) → gone ≡ false → file_by gone odd large ≢ NoFile
is_there_by true odd large a e = let bad : true ≡ false = a in cc
is_there_by false true large a e = let bad : OddFile ≡ NoFile = e in cc
is_there_by false false true a e = let bad : LargeFile ≡ NoFile = e in cc
is_there_by false false false a e = let bad : UnreadFile ≡ NoFile = e in cc

pub no_alarm_is_false : NoAlarmIsFalse
no_alarm_is_false k slip = record {
  taken = taken_by k.is_known k.has_value k.is_taken k.is_of_type (may_be_there k slip) (missing k.what);
  unset = unset_by k.is_known k.has_value k.is_taken k.is_of_type (may_be_there k slip) (missing k.what);
  untaken = untaken_by k.is_known k.has_value k.is_taken k.is_of_type (may_be_there k slip) (missing k.what);
  unknown = unknown_by k.is_known k.has_value k.is_taken k.is_of_type (may_be_there k slip) (missing k.what);
  elsewhere = elsewhere_by k.is_known k.has_value k.is_taken k.is_of_type (may_be_there k slip) (missing k.what);
  again = again_by k.is_known;
  first = first_by k.is_known;
  set = λ path. set_by k.is_known k.is_taken (is_key path);
  not_set = λ path. not_set_by k.is_known k.is_taken (is_key path);
  there = λ file. there_by (may_have_file k) k.is_system (bytes_eq file (codes "profile"));
  database = λ file. database_by (may_have_file k) k.is_system (bytes_eq file (codes "profile"));
  text = none_by (is_value k) (if k.has_double && k.is_system then Double else Nothing);
  double = double_by (is_value k) (if k.has_double && k.is_system then Double else Nothing);
  gone = (refl, refl);
  is_there = λ errno. is_there_by ((errno == 0) || (errno == 2)) (errno == 22) (errno == 75);
}
