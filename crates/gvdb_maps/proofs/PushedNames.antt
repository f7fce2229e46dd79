-- One name more after names that are placed, in order, and have children.
use Rattle.std.proofs.Common.{rules, arith, ◌≡◌, ◌<◌, ◌⊎◌, ℕ, List, [], ◌∷◌, ◌++◌, length, Option, Some, None, refl, sym, ap, ◌∙◌, subst, inl, inr, codes}
use Rattle.std.proofs.lemmas.Grind.{common_steps}
use Rattle.std.proofs.lemmas.List.{get_or_append_left, get_or_push, length_push}
use Rattle.std.proofs.lemmas.Bool.{cases_lt}
use Rattle.std.proofs.lemmas.Cmp.{nat_list_cmp_total}
use Rattle.dconf_model.specs.Table.{list_kind}
use Rattle.dconf_model.specs.Entries.{IsTopEntry}
use Rattle.gvdb_maps.specs.declared.names.Named.{Named}
use Rattle.gvdb_maps.specs.PlanWords.{kind_of, entry_of, no_name, named, name_at, kind_at, IsBefore, IsFit, LiesIn, NameHasParent, IsPlaced, ArePlaced, AreAscending, HasChild, AreGood, IsDirectoryAt, last_name}

pub kept : (names more : List Named) (i : ℕ) → i < length names → named (names ++ more) i ≡ named names i
kept names more i here = get_or_append_left names more no_name i here

pub pushed : (names : List Named) (n : Named) → named (names ++ n ∷ []) (length names) ≡ n
pushed names n = get_or_push names n no_name (length names) refl

pub last_pushed : (names : List Named) (n : Named) → last_name (names ++ n ∷ []) ≡ n.name.now
last_pushed names n = grind (arith, common_steps)

-- what holds at the place of each name, and at that of the next one
pub each_pushed : (P : ℕ → Type 0) (names : List Named) (n : Named) → ((i : ℕ) → i < length names → P i) → P (length names) → (i : ℕ) → i < length (names ++ n ∷ []) → P i
each_pushed P names n old new i here = grind (arith, common_steps, length_push, cases_lt)

-- names that are placed and in order; each directory but `/` and that one has a child
pub record AreGoodBut (names : List Named) (but : ℕ) : Type 0 where
  pub placed : ArePlaced names
  pub ascending : AreAscending names
  pub children : (i : ℕ) → i < length names → kind_at names i ≡ list_kind → (name_at names i ≡ codes "/") ⊎ (HasChild names i ⊎ (i ≡ but))

parent_kept : (names more : List Named) (i : ℕ) → i < length names → (o : Option ℕ) → NameHasParent names i o → NameHasParent (names ++ more) i o
parent_kept names more i here None s = rw (kept names more i here) s
parent_kept names more i here (Some p) s = let before = s.0 in (before, rw (kept names more i here, kept names more p (omega (arith, before, here))) s.1)

placed_kept : (names more : List Named) (i : ℕ) → i < length names → IsPlaced names i → IsPlaced (names ++ more) i
placed_kept names more i here p = grind (arith, common_steps, kept, parent_kept)

-- each precedes what the last one precedes
pub before_last : (names : List Named) (text : List ℕ) → AreAscending names → IsBefore (last_name names) text → (i : ℕ) → i < length names → IsBefore (name_at names i) text
before_last names text ascending before i here = grind (arith, common_steps, cases_lt, nat_list_cmp_total, ascending)

child_kept : (names : List Named) (n : Named) (i : ℕ) → HasChild names i → HasChild (names ++ n ∷ []) i
child_kept names n i child = grind (arith, common_steps)

child_pushed : (names : List Named) (n : Named) (p : ℕ) → n.parent ≡ Some p → HasChild (names ++ n ∷ []) p
child_pushed names n p is = grind (arith, common_steps)

-- one in a directory of those before it
pub placed_within : (names : List Named) (n : Named) (p : ℕ) → p < length names → n.parent ≡ Some p → IsFit n → LiesIn (named names p) n → IsPlaced (names ++ n ∷ []) (length names)
placed_within names n p here up fit lies = search (rules, arith, kept, pushed)

-- one without
pub placed_top : (names : List Named) (n : Named) → n.parent ≡ None → IsFit n → n.from ≡ 0 → IsTopEntry (entry_of n) → IsPlaced (names ++ n ∷ []) (length names)
placed_top names n up fit from is = grind (arith, common_steps, pushed)

-- the next name, which lies in the directory that may have no child: the next such is the new one
pub good_push : (names : List Named) (n : Named) (but : ℕ) → AreGoodBut names but → IsPlaced (names ++ n ∷ []) (length names) → ((i : ℕ) → i < length names → IsBefore (name_at names i) n.name.now) → (but < length names → n.parent ≡ Some but) → AreGoodBut (names ++ n ∷ []) (length names)
good_push names n but good last before up = record {
  placed = each_pushed (IsPlaced all) names n (λ i l. placed_kept names (n ∷ []) i l (good.placed i l)) last;
  ascending = λ i j less here.
      each_pushed (λ k. i < k → IsBefore (name_at all i) (name_at all k)) names n
      (λ k l lt. rw (IsBefore, name_at, kept names (n ∷ []) i (omega (arith, lt, l)), kept names (n ∷ []) k l) (good.ascending i k lt l))
      (λ lt. rw (IsBefore, name_at, kept names (n ∷ []) i lt, pushed names n) (before i lt)) j here less;
  children =
      each_pushed (λ i. kind_at all i ≡ list_kind → (name_at all i ≡ codes "/") ⊎ (HasChild all i ⊎ (i ≡ length names))) names n
      (λ i l list. elim (good.children i l (sym (ap (λ (x : Named). kind_of x.content) (kept names (n ∷ []) i l)) ∙ list)) [
        | inl top ↦ inl (rw (name_at, kept names (n ∷ []) i l) top)
        | inr (inl child) ↦ inr (inl (child_kept names n i child))
        | inr (inr is) ↦ inr (inl (child_pushed names n i (up (subst (λ (k : ℕ). k < length names) is l) ∙ ap (λ (k : ℕ). Some k) (sym is))))
      ]) (λ list. inr (inr refl));
}
  where
    all : List Named
    all = names ++ n ∷ []

pub none_missing : (names : List Named) (but : ℕ) → AreGood names → AreGoodBut names but
none_missing names but good = record {
  placed = good.placed;
  ascending = good.ascending;
  children = λ i here list. elim (good.children i here list) [ inl top ↦ inl top | inr child ↦ inr (inl child) ];
}

-- the last one is no directory, or `/`
pub all_good : (names : List Named) (n : Named) → AreGoodBut (names ++ n ∷ []) (length names) → (kind_of n.content ≡ list_kind → n.name.now ≡ codes "/") → AreGood (names ++ n ∷ [])
all_good names n good top = record {
  placed = good.placed;
  ascending = good.ascending;
  children = λ i here list. elim (good.children i here list) [
    | inl slash ↦ inl slash
    | inr (inl child) ↦ inr child
    | inr (inr is) ↦
        let at : named (names ++ n ∷ []) i ≡ n = ap (λ (k : ℕ). named (names ++ n ∷ []) k) is ∙ pushed names n in
        inl (rw (name_at, at) (top (sym (ap (λ (x : Named). kind_of x.content) at) ∙ list)))
  ];
}

-- the directory in which a path lies
pub directory_kept : (names more : List Named) (text : List ℕ) (at : ℕ) → IsDirectoryAt names text at → IsDirectoryAt (names ++ more) text at
directory_kept names more text at d = grind (arith, common_steps)
