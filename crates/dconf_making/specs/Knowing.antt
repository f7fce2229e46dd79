-- What a store knows beside what it shows: what it learns, and what ends that.
use Rattle.std.specs.Prelude.{ℕ, ◌≡◌, Bool, true, false, ◌&&◌, ◌||◌, if◌then◌else◌, ◌==◌, max, List, [], ◌∷◌}
use Rattle.dconf_making.specs.declared.ending.Newest.{Newest}
use Rattle.dconf_making.specs.declared.ending.Newest.TheVariants.{Old, Newer, Tried}
use Rattle.dconf_making.specs.declared.knowing.StoreKnown.{StoreKnown}
use Rattle.dconf_making.specs.declared.knowing.Happening.{Happening}
use Rattle.dconf_making.specs.declared.knowing.Happening.TheVariants.{Found, Told, Seen, Noted, Ended, Follows, Begins, Compared}

-- What may be made is tried until a later change is made.
abbrev pub tried_after : Newest → Bool → Bool
tried_after Old tried = tried
tried_after Newer tried = false
tried_after Tried tried = true

-- who is opened in the place of another one knows what either knew
abbrev pub follows : StoreKnown → StoreKnown → StoreKnown
follows k old = record {
  noted = max k.noted old.noted;
  has_news = k.has_news || old.has_news;
  has_seen = k.has_seen || old.has_seen;
  has_tried = k.has_tried || old.has_tried;
  is_unsettled = k.is_unsettled || old.is_unsettled;
  is_made = false;
}

abbrev pub after : StoreKnown → Happening → StoreKnown
after k (Compared same) = record k { is_made = k.has_tried && same }
after k (Found news) = record k { has_news = k.has_news || news; has_tried = false; is_made = false }
after k Told = record k { has_news = false }
after k (Seen had) = record k { has_seen = k.has_seen || had }
after k (Noted time) = record k { noted = if time == 0 then k.noted else time; has_seen = false }
after k (Ended newest unsettled) = record k { has_tried = tried_after newest k.has_tried; is_unsettled = unsettled }
after k (Follows old) = follows k old
after k Begins = k

abbrev pub newest_of : ℕ → Newest
newest_of n = if n == 0 then Old else if n == 1 then Newer else Tried

abbrev pub happening_of : ℕ → Bool → ℕ → StoreKnown → Happening
happening_of what is number old =
    if what == 0 then Found is else if what == 1 then Told else if what == 2 then Seen is else
    if what == 3 then Noted (if is then number else 0) else if what == 4 then Ended (newest_of number) is else if what == 6 then Compared is else
    if is then Follows old else Begins

-- ---- the law

abbrev pub after_all : StoreKnown → List Happening → StoreKnown
after_all k [] = k
after_all k (what ∷ more) = after_all (after k what) more

-- what ends each of these
abbrev pub tells : Happening → Bool
tells Told = true
tells what = false

abbrev pub notes : Happening → Bool
notes (Noted time) = true
notes what = false

abbrev pub is_made : Newest → Bool
is_made Newer = true
is_made _ = false

abbrev pub finds_out : Happening → Bool
finds_out (Found news) = true
finds_out (Ended newest unsettled) = is_made newest
finds_out what = false

abbrev pub settles : Happening → Bool
settles (Ended _ true) = false
settles (Ended _ false) = true
settles what = false

abbrev pub Never : (Happening → Bool) → List Happening → Type 0
Never ends [] = Unit {0}
Never ends (what ∷ more) = (ends what ≡ false) × Never ends more

-- Nothing that a store knows is lost but by what ends it, however many others are opened in its place.
pub record NothingKnownIsLost : Type 0 where
  -- news, once somebody is told
  pub news : (whats : List Happening) (k : StoreKnown) → Never tells whats → k.has_news ≡ true → (after_all k whats).has_news ≡ true
  -- what others changed, once it is noted
  pub seen : (whats : List Happening) (k : StoreKnown) → Never notes whats → k.has_seen ≡ true → (after_all k whats).has_seen ≡ true
  -- a change that is perhaps made, once a look finds other files, or a later one is made
  pub tried : (whats : List Happening) (k : StoreKnown) → Never finds_out whats → k.has_tried ≡ true → (after_all k whats).has_tried ≡ true
  -- that one may not be on the disk, once a change ends that is there
  pub unsettled : (whats : List Happening) (k : StoreKnown) → Never settles whats → k.is_unsettled ≡ true → (after_all k whats).is_unsettled ≡ true
  -- and another one's, by whoever takes its place
  pub followed : (k old : StoreKnown) → old.has_news ≡ true → (after k (Follows old)).has_news ≡ true
  -- what a look finds is its own change exactly if one is perhaps made, and that is the file
  pub made : (k : StoreKnown) (same : Bool) → k.has_tried ≡ true → (after k (Compared same)).is_made ≡ same
  pub others : (k : StoreKnown) (same : Bool) → k.has_tried ≡ false → (after k (Compared same)).is_made ≡ false
