-- A note that is put in the place of another: from times to notes.
use Rattle.std.specs.Prelude.{◌≡◌, ◌≤◌, ◌<◌, ◌+◌, ◌++◌, drop, take, ℕ, zero, suc, Bool, true, List, [], ◌∷◌, length, map, get_or, Some, refl, if◌then◌else◌, option_map, set, slice_get}
use Rattle.std.proofs.Common.{sym, ap, ◌∙◌, subst, arith}
use Rattle.std.specs.List.{list_all}
use Rattle.std.proofs.lemmas.Bool.{and_from, lt-ltb, le-leb, le-ltb}
use Rattle.std.proofs.lemmas.List.{append-nil, drop_all, drop_more, length-map, map-set, take_all}
use Rattle.std.proofs.lemmas.Option.{same_Some, slice_get-get_or, slice_get-map}
use Rattle.dconf_times.specs.declared.times.DconfdbTime.{DconfdbTime}
use Rattle.dconf_times.specs.Noted.{AreAdded, IsAdded, IsOldest, IsPut, is_as_late}
use Rattle.dconf_times.specs.Times.{Note, note_of}
use Rattle.dconf_times.proofs.NotedLaws.{first_added, first_unknown, nothing_added, put_in_oldest, same_put}

note_at : (ts : List DconfdbTime) (at : ℕ) (d : DconfdbTime) → at < length ts → slice_get (map note_of ts) at ≡ Some (note_of (get_or ts at d))
note_at ts at d inside = slice_get-map note_of ts at ∙ ap (option_map note_of) (slice_get-get_or ts at d inside)

pub put_there : (ts : List DconfdbTime) (at : ℕ) (t d : DconfdbTime) → at < length ts → (get_or ts at d).when < t.when → IsPut (note_of t) at (map note_of ts) (map note_of (set ts at t))
put_there ts at t d inside earlier = record {
  other = note_of (get_or ts at d);
  was = note_at ts at d inside;
  put = map-set note_of ts at t ∙ sym (ap (λ (b : Bool). if b then set (map note_of ts) at (note_of t) else map note_of ts) (lt-ltb (get_or ts at d).when t.when earlier));
}

pub left_there : (ts : List DconfdbTime) (at : ℕ) (t d : DconfdbTime) → at < length ts → t.when ≤ (get_or ts at d).when → IsPut (note_of t) at (map note_of ts) (map note_of ts)
left_there ts at t d inside later = record {
  other = note_of (get_or ts at d);
  was = note_at ts at d inside;
  put = sym (ap (λ (b : Bool). if b then set (map note_of ts) at (note_of t) else map note_of ts) (le-ltb (get_or ts at d).when t.when later));
}

-- in the place of one of its path
pub raised : (most : ℕ) (ts : List DconfdbTime) (at : ℕ) (t d : DconfdbTime) (new : List Note) → IsPut (note_of t) at (map note_of ts) new → at < length ts → (get_or ts at d).path.now ≡ t.path.now → IsAdded most (note_of t) (map note_of ts) new
raised most ts at t d new put inside path =
    let same : note_of (get_or ts at d) ≡ put.other = same_Some (note_of (get_or ts at d)) put.other (sym (note_at ts at d inside) ∙ put.was) in
    same_put most (note_of t) at (map note_of ts) new put (sym (ap (λ (n : Note). n.path) same) ∙ path)

all_late : (f : Note → Bool) (ts : List DconfdbTime) (d : DconfdbTime) → ((k : ℕ) → k < length ts → f (note_of (get_or ts k d)) ≡ true) → list_all f (map note_of ts) ≡ true
all_late f [] d h = refl
all_late f (t ∷ ts) d h = and_from (f (note_of t)) (list_all f (map note_of ts)) (h zero (omega arith)) (all_late f ts d (λ k inside. h (suc k) (omega arith)))

pub is_oldest : (ts : List DconfdbTime) (at : ℕ) → at < length ts → ((k : ℕ) (d : DconfdbTime) → k < length ts → (get_or ts at d).when ≤ (get_or ts k d).when) → IsOldest at (map note_of ts)
is_oldest [] at inside h = let bad : ⊥ = omega arith in absurd bad
is_oldest (t ∷ ts) at inside h = record {
  oldest = note_of (get_or (t ∷ ts) at t);
  is_at = note_at (t ∷ ts) at t inside;
  all = all_late (is_as_late (note_of (get_or (t ∷ ts) at t))) (t ∷ ts) t (λ k within. le-leb (get_or (t ∷ ts) at t).when (get_or (t ∷ ts) k t).when (h k t within));
}

-- one more of the times that are looked at
pub step_added : (now most : ℕ) (ts : List DconfdbTime) (i : ℕ) (d : DconfdbTime) (old mid last : List Note) → i < length ts → (get_or ts i d).when ≤ now → IsAdded most (note_of (get_or ts i d)) old mid → AreAdded now most (map note_of (drop (i + 1) ts)) mid last → AreAdded now most (map note_of (drop i ts)) old last
step_added now most ts i d old mid last inside known one rest =
    subst (λ (xs : List DconfdbTime). AreAdded now most (map note_of xs) old last) (sym (drop_more ts i d inside))
    (first_added now most (note_of (get_or ts i d)) (map note_of (drop (i + 1) ts)) old mid last known one rest)

pub step_unknown : (now most : ℕ) (ts : List DconfdbTime) (i : ℕ) (d : DconfdbTime) (old last : List Note) → i < length ts → now < (get_or ts i d).when → AreAdded now most (map note_of (drop (i + 1) ts)) old last → AreAdded now most (map note_of (drop i ts)) old last
step_unknown now most ts i d old last inside unknown rest =
    subst (λ (xs : List DconfdbTime). AreAdded now most (map note_of xs) old last) (sym (drop_more ts i d inside))
    (first_unknown now most (note_of (get_or ts i d)) (map note_of (drop (i + 1) ts)) old last unknown rest)

-- none is left
pub none_left : (now most : ℕ) (ts : List DconfdbTime) (i : ℕ) (old : List Note) → length ts ≤ i → AreAdded now most (map note_of (drop i ts)) old old
none_left now most ts i old past =
    subst (λ (xs : List DconfdbTime). AreAdded now most (map note_of xs) old old) (sym (drop_all i ts past)) (nothing_added now most old)

-- what a slice of all leaves in its list
pub written_back : (new old : List DconfdbTime) (n : ℕ) → n ≡ length old → length new ≡ length old → take n (new ++ drop (length new) old) ≡ new
written_back new old n count same =
    let none : drop (length new) old ≡ [] = drop_all (length new) old (omega arith) in
    ap (λ (xs : List DconfdbTime). take n (new ++ xs)) none ∙ (ap (λ (xs : List DconfdbTime). take n xs) (append-nil new) ∙ take_all n new (omega arith))

-- in the place of the oldest
pub oldest_put : (most : ℕ) (ts : List DconfdbTime) (at : ℕ) (t : DconfdbTime) (new : List Note) → IsPut (note_of t) at (map note_of ts) new → IsOldest at (map note_of ts) → most ≤ length ts → IsAdded most (note_of t) (map note_of ts) new
oldest_put most ts at t new put oldest full =
    put_in_oldest most (note_of t) at (map note_of ts) new put oldest (subst (λ (k : ℕ). most ≤ k) (sym (length-map ts note_of)) full)
