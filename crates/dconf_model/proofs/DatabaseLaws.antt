-- What a file says of settings.
use Rattle.std.specs.Prelude.{◌≡◌, ℕ, List, Option, Some, None, IsTrue, is_some, refl}
use Rattle.std.proofs.Common.{sym}
use Rattle.std.specs.FinMap.{get, same_map, slice_cmp-IsAntisymmetric, nat_cmp-IsAntisymmetric}
use Rattle.std.specs.Cmp.Lexicographic.{nat_list_cmp_total}
use Rattle.std.proofs.lemmas.Option.{none-some}
use Rattle.dconf_model.proofs.PathMaps.{no_truth}
use Rattle.dconf_model.specs.Settings.{AtPaths, Lock}
use Rattle.dconf_model.specs.Databases.{SaysOneThing, WrittenSaysSettings}

-- options that are the same wherever one of them is there
pub same_option : {X : Type 0} (p q : Option X) → ((x : X) → p ≡ Some x → q ≡ Some x) → ((x : X) → q ≡ Some x → p ≡ Some x) → p ≡ q
same_option None None f g = refl
same_option None (Some y) f g = absurd (none-some y (g y refl))
same_option (Some x) q f g = sym (f x refl)

pub same_lock : (p q : Option Lock) → (IsTrue (is_some p) → IsTrue (is_some q)) → (IsTrue (is_some q) → IsTrue (is_some p)) → p ≡ q
same_lock None None f g = refl
same_lock None (Some y) f g = absurd (no_truth (g refl))
same_lock (Some x) None f g = absurd (no_truth (f refl))
same_lock (Some x) (Some y) f g = refl

-- maps that give the same at each path are the same
pub at_paths : {X : Type 0} (m n : AtPaths X) → ((q : List ℕ) → get m q ≡ get n q) → m ≡ n
at_paths m n e = same_map nat_list_cmp_total (slice_cmp-IsAntisymmetric nat_cmp-IsAntisymmetric) m n e

pub says_one_thing : SaysOneThing
says_one_thing file s t f g =
    let values = at_paths s.values t.values (λ q. same_option (get s.values q) (get t.values q)
    (λ x e. (g.values q x).0 ((f.values q x).1 e)) (λ x e. (f.values q x).0 ((g.values q x).1 e))) in
    let locks = at_paths s.locks t.locks (λ q. same_lock (get s.locks q) (get t.locks q)
    (λ l. (g.locks q).1 ((f.locks q).0 l)) (λ l. (f.locks q).1 ((g.locks q).0 l))) in
    λ i. record { values = values i; locks = locks i }

pub written_says_settings : WrittenSaysSettings
written_says_settings s file paths h = record {
  values = h.values;
  locks = λ path. (
    (λ l. (paths path l, (let there = h.locks.there (path, l) in (there.0, there.1, (h.locks.names there.0 there.1 path).1 l)))),
    (λ named. (h.locks.names named.1.0 named.1.1 path).0 named.1.2),
  );
}
