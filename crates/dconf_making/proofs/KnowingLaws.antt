-- What a store knows is lost by nothing but what ends it.
use Rattle.std.proofs.Common.{◌≡◌, Bool, true, false, ◌&&◌, ◌||◌, List, [], ◌∷◌, refl}
use Rattle.dconf_making.specs.declared.ending.Newest.TheVariants.{Old, Newer, Tried}
use Rattle.dconf_making.specs.declared.knowing.StoreKnown.{StoreKnown}
use Rattle.dconf_making.specs.declared.knowing.Happening.{Happening}
use Rattle.dconf_making.specs.declared.knowing.Happening.TheVariants.{Found, Told, Seen, Noted, Ended, Follows, Begins, Compared}
use Rattle.dconf_making.specs.Knowing.{Never, NothingKnownIsLost, after, after_all, finds_out, notes, settles, tells}

or_there : (a b : Bool) → a ≡ true → (a || b) ≡ true
or_there true b h = refl
or_there false b h = absurd (let bad : false ≡ true = h in cc)

or_other : (a b : Bool) → b ≡ true → (a || b) ≡ true
or_other true b h = refl
or_other false b h = h

and_there : (a b : Bool) → a ≡ true → (a && b) ≡ b
and_there true b h = refl
and_there false b h = absurd (let bad : false ≡ true = h in cc)

and_not : (a b : Bool) → a ≡ false → (a && b) ≡ false
and_not false b h = refl
and_not true b h = absurd (let bad : true ≡ false = h in cc)

-- ---- one after another

news_stay : (k : StoreKnown) (what : Happening) → tells what ≡ false → k.has_news ≡ true → (after k what).has_news ≡ true
news_stay k (Found news) n h = or_there k.has_news news h
news_stay k Told n h = absurd (let bad : true ≡ false = n in cc)
news_stay k (Seen had) n h = h
news_stay k (Noted time) n h = h
news_stay k (Ended _ unsettled) n h = h
news_stay k (Follows old) n h = or_there k.has_news old.has_news h
news_stay k Begins n h = h
news_stay k (Compared same) n h = h

seen_stays : (k : StoreKnown) (what : Happening) → notes what ≡ false → k.has_seen ≡ true → (after k what).has_seen ≡ true
seen_stays k (Found news) n h = h
seen_stays k Told n h = h
seen_stays k (Seen had) n h = or_there k.has_seen had h
seen_stays k (Noted time) n h = absurd (let bad : true ≡ false = n in cc)
seen_stays k (Ended _ unsettled) n h = h
seen_stays k (Follows old) n h = or_there k.has_seen old.has_seen h
seen_stays k Begins n h = h
seen_stays k (Compared same) n h = h

tried_stays : (k : StoreKnown) (what : Happening) → finds_out what ≡ false → k.has_tried ≡ true → (after k what).has_tried ≡ true
tried_stays k (Found news) n h = absurd (let bad : true ≡ false = n in cc)
tried_stays k Told n h = h
tried_stays k (Seen had) n h = h
tried_stays k (Noted time) n h = h
tried_stays k (Ended Old unsettled) n h = h
tried_stays k (Ended Newer unsettled) n h = absurd (let bad : true ≡ false = n in cc)
tried_stays k (Ended Tried unsettled) n h = refl
tried_stays k (Follows old) n h = or_there k.has_tried old.has_tried h
tried_stays k Begins n h = h
tried_stays k (Compared same) n h = h

unsettled_stays : (k : StoreKnown) (what : Happening) → settles what ≡ false → k.is_unsettled ≡ true → (after k what).is_unsettled ≡ true
unsettled_stays k (Found news) n h = h
unsettled_stays k Told n h = h
unsettled_stays k (Seen had) n h = h
unsettled_stays k (Noted time) n h = h
unsettled_stays k (Ended _ true) n h = refl
unsettled_stays k (Ended _ false) n h = absurd (let bad : true ≡ false = n in cc)
unsettled_stays k (Follows old) n h = or_there k.is_unsettled old.is_unsettled h
unsettled_stays k Begins n h = h
unsettled_stays k (Compared same) n h = h

-- ---- all of them

news : (whats : List Happening) (k : StoreKnown) → Never tells whats → k.has_news ≡ true → (after_all k whats).has_news ≡ true
news [] k n h = h
news (what ∷ more) k n h = news more (after k what) n.1 (news_stay k what n.0 h)

seen : (whats : List Happening) (k : StoreKnown) → Never notes whats → k.has_seen ≡ true → (after_all k whats).has_seen ≡ true
seen [] k n h = h
seen (what ∷ more) k n h = seen more (after k what) n.1 (seen_stays k what n.0 h)

tried : (whats : List Happening) (k : StoreKnown) → Never finds_out whats → k.has_tried ≡ true → (after_all k whats).has_tried ≡ true
tried [] k n h = h
tried (what ∷ more) k n h = tried more (after k what) n.1 (tried_stays k what n.0 h)

unsettled : (whats : List Happening) (k : StoreKnown) → Never settles whats → k.is_unsettled ≡ true → (after_all k whats).is_unsettled ≡ true
unsettled [] k n h = h
unsettled (what ∷ more) k n h = unsettled more (after k what) n.1 (unsettled_stays k what n.0 h)

pub nothing_known_is_lost : NothingKnownIsLost
nothing_known_is_lost = record {
  news = news;
  seen = seen;
  tried = tried;
  unsettled = unsettled;
  followed = λ k old h. or_other k.has_news old.has_news h;
  made = λ k same h. and_there k.has_tried same h;
  others = λ k same h. and_not k.has_tried same h;
}
