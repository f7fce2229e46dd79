-- Each line is of tokens that can be written, so the reader finds them.
use Rattle.std.proofs.Common.{ℕ, zero, suc, Bool, true, false, List, [], ◌∷◌, ◌++◌, Option, Some, None, length, map}
use Rattle.std.specs.Prelude.{flat_map, if◌then◌else◌, option_map, slice_get}
use Rattle.json.specs.Print.{ArePrintable}
use Rattle.json.specs.Token.{Token, string}
use Rattle.json.proofs.Printed.Tokens.{tokens-print}
use Rattle.gv_model.specs.Ty.{Ty}
use Rattle.gv_model.specs.Ty.Ty.{variant}
use Rattle.gv_model.specs.Tree.{Tree}
use Rattle.gv_model.specs.Children.{Child, child_bytes}
use Rattle.gv_model.specs.Decode.{cut, decode}
use Rattle.gv_model.specs.Printed.{holds_double, is_too_large, printed}
use Rattle.dconf_model.specs.Databases.{gathered}
use Rattle.dconf_model.specs.Explains.{bytes_in, lock_in, place_name}
use Rattle.dconf_model.specs.Layers.{Layers, is_locked, origin, visible_bytes}
use Rattle.dconf_model.specs.Profiles.{Database}
use Rattle.dconf_json.specs.Compared.{key_tokens, lock_tokens, side_tokens, sides_tokens}
use Rattle.dconf_json.specs.Explained.{database_tokens, explanation_tokens, head_tokens, held_tokens, refusal, seen_tokens}
use Rattle.dconf_json.specs.Lines.{member_tokens, members_tokens, names_tokens}
use Rattle.dconf_json.specs.ReadBack.{ExplanationsAreReadBack, KeysAreReadBack, LocksAreReadBack, MembersAreReadBack, NamesAreReadBack, ValuesAreReadBack}
use Rattle.dconf_json.specs.Values.{child_tokens, double_tokens, text_or_null, tree_tokens, typed_tokens, value_tokens}

both : (xs ys : List Token) → ArePrintable xs → ArePrintable ys → ArePrintable (xs ++ ys)
unfolding ArePrintable
both [] ys p q = q
both (x ∷ xs) ys p q = (p.0, both xs ys p.1 q)

each : {X : Type 0} (f : X → List Token) (xs : List X) → ((x : X) → ArePrintable (f x)) → ArePrintable (flat_map f xs)
unfolding ArePrintable
each f [] p = tt
each f (x ∷ xs) p = both (f x) (flat_map f xs) (p x) (each f xs p)

each_of : (f : ℕ → List Token) (n : ℕ) → ((i : ℕ) → ArePrintable (f i)) → ArePrintable (gathered f n)
unfolding ArePrintable
each_of f zero p = tt
each_of f (suc n) p = both (gathered f n) (f n) (each_of f n p) (p n)

strings : (names : List (List ℕ)) → ArePrintable (map string names)
unfolding ArePrintable
strings [] = tt
strings (name ∷ names) = (tt, strings names)

-- ---- values

typed : (t : Ty) (bytes : List ℕ) → ArePrintable (typed_tokens t bytes)
unfolding ArePrintable
typed t bytes = (tt, (tt, (tt, (tt, (tt, (tt, tt))))))

doubled : (skips : Bool) (t : Ty) (bytes : List ℕ) → ArePrintable (double_tokens skips t bytes)
unfolding ArePrintable
doubled true t bytes = (tt, tt)
doubled false t bytes = typed t bytes

by_cases : (large double skips : Bool) (v : Tree) (t : Ty) (bytes : List ℕ)
    → ArePrintable (if large then typed_tokens t bytes else if double then double_tokens skips t bytes else string (printed v true) ∷ [])
unfolding ArePrintable
by_cases true double skips v t bytes = typed t bytes
by_cases false true skips v t bytes = doubled skips t bytes
by_cases false false skips v t bytes = (tt, tt)

of_child : (skips : Bool) (bytes : List ℕ) (o : Option Child) → ArePrintable (child_tokens skips bytes o)
unfolding ArePrintable
of_child skips bytes None = (tt, tt)
of_child skips bytes (Some c) =
    let v = decode c.type (child_bytes bytes c) in
    by_cases (is_too_large v) (holds_double v) skips v c.type (child_bytes bytes c)

value : (skips : Bool) (bytes : Option (List ℕ)) → ArePrintable (value_tokens skips bytes)
unfolding ArePrintable
value skips None = (tt, tt)
value skips (Some bytes) = of_child skips bytes (slice_get (cut variant bytes) 0)

or_null : (text : Option (List ℕ)) → ArePrintable (text_or_null text)
unfolding ArePrintable
or_null None = (tt, tt)
or_null (Some text) = (tt, tt)

-- ---- what is behind a value, or a text that may be none

after_value : (skips : Bool) (bytes : Option (List ℕ)) (ts : List Token) → ArePrintable ts → ArePrintable (value_tokens skips bytes ++ ts)
after_value skips bytes ts p = both (value_tokens skips bytes) ts (value skips bytes) p

after_text : (text : Option (List ℕ)) (ts : List Token) → ArePrintable ts → ArePrintable (text_or_null text ++ ts)
after_text text ts p = both (text_or_null text) ts (or_null text) p

-- ---- lines

member : (skips : Bool) (row : List ℕ × Option (List ℕ)) → ArePrintable (member_tokens skips row)
unfolding ArePrintable
member skips (path, None) = tt
member skips (path, Some bytes) = (tt, value skips (Some bytes))

side : (l : Layers) (path : List ℕ) → ArePrintable (side_tokens l path)
unfolding ArePrintable
side l path = (tt, (tt, after_value false (visible_bytes l path) _ (tt, (tt, (tt, tt)))))

sides : (l m : Layers) (path : List ℕ) → ArePrintable (sides_tokens l m path)
unfolding ArePrintable
sides l m path = (tt, both (side_tokens l path) _ (side l path) (tt, side m path))

held : (l : Layers) (path : List ℕ) (i : ℕ) → ArePrintable (held_tokens l path i)
unfolding ArePrintable
held l path i = (tt, after_value false (bytes_in l path i) _ (tt, or_null (lock_in l path i)))

database : (databases : List Database) (l : Layers) (path : List ℕ) (i : ℕ) → ArePrintable (database_tokens databases l path i)
unfolding ArePrintable
database databases l path i = (tt, (tt, (tt, both (held_tokens l path i) _ (held l path i) (tt, tt))))

head : (databases : List Database) (l : Layers) (path : List ℕ) → ArePrintable (head_tokens databases l path)
unfolding ArePrintable
head databases l path = (
  tt,
  (
    tt,
    (
      tt,
      both (seen_tokens databases l path) _
          (tt, after_value false (visible_bytes l path) _ (tt, or_null (option_map (place_name databases) (origin l path))))
          (tt, after_text (refusal l.writable (is_locked l path)) _ (tt, (tt, tt))),
    ),
  ),
)

pub values_are_read_back : ValuesAreReadBack
values_are_read_back skips bytes = tokens-print (value_tokens skips bytes) (value skips bytes)

pub names_are_read_back : NamesAreReadBack
unfolding ArePrintable
names_are_read_back names = tokens-print (names_tokens names) (tt, both (map string names) _ (strings names) (tt, tt))

pub members_are_read_back : MembersAreReadBack
unfolding ArePrintable
members_are_read_back skips rows =
    tokens-print (members_tokens skips rows) (tt, both (flat_map (member_tokens skips) rows) _ (each (member_tokens skips) rows (member skips)) (tt, tt))

pub explanations_are_read_back : ExplanationsAreReadBack
unfolding ArePrintable
explanations_are_read_back databases l path =
    tokens-print (explanation_tokens databases l path)
    (both (head_tokens databases l path) _ (head databases l path)
    (both (gathered (database_tokens databases l path) (length databases)) _ (each_of (database_tokens databases l path) (length databases) (database databases l path)) (tt, (tt, tt))))

pub keys_are_read_back : KeysAreReadBack
unfolding ArePrintable
keys_are_read_back l m path =
    tokens-print (key_tokens l m path) (tt, (tt, (tt, both (sides_tokens l m path) _ (sides l m path) (tt, tt))))

pub locks_are_read_back : LocksAreReadBack
unfolding ArePrintable
locks_are_read_back is_new lock = tokens-print (lock_tokens is_new lock) (tt, (tt, (tt, (tt, (tt, (tt, (tt, (tt, tt))))))))
