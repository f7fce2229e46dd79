-- Who says the newest word of a key, and who looks at the files.
use Rattle.std.specs.Prelude.{◌≡◌, ◌↔◌, ◌-◌, ◌==◌, ◌&&◌, ◌||◌, ℕ, zero, suc, Bool, true, false, not, if◌then◌else◌, List, [], ◌∷◌, length, refl}
use Rattle.std.proofs.Common.{ap, sym, ◌∙◌, arith, subst}
use Rattle.std.proofs.lemmas.Bool.{and_parts}
use Rattle.dconf_changesets.specs.declared.asking.LookDue.{LookDue}
use Rattle.dconf_changesets.specs.declared.asking.LookDue.TheVariants.{Nothing, Opens, Looks, Later}
use Rattle.dconf_changesets.specs.Asking.{NoLookIsMissed, TheNewestIsAsked, ToldCountsForWhoReads, all_rows, is_heard, is_spared, newest, said_in}
use Rattle.dconf_changesets.specs.Rows.{Row, later_word, said}
use Rattle.dconf_changesets.proofs.WordLaws.{after_silent, later_assoc, said_append}

under : (key : List ℕ) (rows : List Row) (more : List (List Row)) (n : ℕ) → newest key (rows ∷ more) (suc n) ≡ later_word (said key rows) (newest key more n)
under key rows more zero = after_silent (said key rows)
under key rows more (suc n) =
    ap (λ w. later_word w (said_in key more (suc n))) (under key rows more n) ∙ later_assoc (said key rows) (newest key more n) (said_in key more (suc n))

in_all : (key : List ℕ) (sets : List (List Row)) → newest key sets (length sets) ≡ said key (all_rows sets)
in_all key [] = refl
in_all key (rows ∷ more) =
    under key rows more (length more) ∙ (ap (later_word (said key rows)) (in_all key more) ∙ sym (said_append key rows (all_rows more)))

none_asked : (n : ℕ) → n - 0 ≡ n
none_asked n = omega arith

pub the_newest_is_asked : TheNewestIsAsked
the_newest_is_asked key sets = ap (newest key sets) (none_asked (length sets)) ∙ in_all key sets

-- ---- looks

abbrev due_by : Bool → Bool → Bool → LookDue
due_by opened spared busy = if not opened then Opens else if spared then Nothing else if busy then Later else Looks

opens_by : (o s b : Bool) → (due_by o s b ≡ Opens) ↔ (o ≡ false)
opens_by false s b = ((λ e. refl), (λ e. refl))
opens_by true true b = ((λ e. absurd (let bad : Nothing ≡ Opens = e in cc)), (λ e. absurd (let bad : true ≡ false = e in cc)))
opens_by true false true = ((λ e. absurd (let bad : Later ≡ Opens = e in cc)), (λ e. absurd (let bad : true ≡ false = e in cc)))
opens_by true false false = ((λ e. absurd (let bad : Looks ≡ Opens = e in cc)), (λ e. absurd (let bad : true ≡ false = e in cc)))

seen_by : (o w b : Bool) → o ≡ true → due_by o (w && false) b ≡ (if b then Later else Looks)
seen_by false w b is = absurd (let bad : false ≡ true = is in cc)
seen_by true true b is = refl
seen_by true false b is = refl

spared_by : (o s b : Bool) → due_by o s b ≡ Nothing → s ≡ true
spared_by false s b e = absurd (let bad : Opens ≡ Nothing = e in cc)
spared_by true true b e = refl
spared_by true false true e = absurd (let bad : Later ≡ Nothing = e in cc)
spared_by true false false e = absurd (let bad : Looks ≡ Nothing = e in cc)

pub no_look_is_missed : NoLookIsMissed
no_look_is_missed looker k = record {
  opens = opens_by k.is_open (is_spared looker k) k.is_busy;
  seen = λ (e : looker ≡ 0) (is : k.is_open ≡ true). rw e (seen_by k.is_open k.is_watched k.is_busy is);
  read = λ (e : looker ≡ 2). subst (λ (x : ℕ). due_by k.is_open (is_spared x k) k.is_busy ≡ Nothing → (k.is_watched ≡ true) × (is_heard k ≡ true)) (sym e)
      (λ quiet. and_parts k.is_watched (is_heard k) (spared_by k.is_open (k.is_watched && is_heard k) k.is_busy quiet));
}

-- ---- what was told

unheard_by : (gets w h u o t told : Bool) → (gets && (w && (h && (u && o)))) ≡ false →
    (w && (gets && (h && (u && (not told && o))))) ≡ (w && (gets && (h && (u && (not t && o)))))
unheard_by gets false h u o t told e = refl
unheard_by false true h u o t told e = refl
unheard_by true true false u o t told e = refl
unheard_by true true true false o t told e = refl
unheard_by true true true true false true true e = refl
unheard_by true true true true false true false e = refl
unheard_by true true true true false false true e = refl
unheard_by true true true true false false false e = refl
unheard_by true true true true true t told e = absurd (let bad : true ≡ false = e in cc)

-- who changes a setting, or wants the store alone, is spared whatever was told
spared_alike : (store w sets x y : Bool) → (w && x) ≡ (w && y) → (store || (w && (sets || x))) ≡ (store || (w && (sets || y)))
spared_alike true w sets x y e = refl
spared_alike false false sets x y e = refl
spared_alike false true true x y e = refl
spared_alike false true false x y e = e

pub told_counts_for_who_reads : ToldCountsForWhoReads
told_counts_for_who_reads looker k told e =
    ap (λ (s : Bool). due_by k.is_open s k.is_busy)
    (spared_alike (looker == 3) k.is_watched (looker == 1) ((looker == 2) && is_heard (record k { is_told = told })) ((looker == 2) && is_heard k)
    (unheard_by (looker == 2) k.is_watched k.is_whole (k.until == 0) k.is_own k.is_told told e))
