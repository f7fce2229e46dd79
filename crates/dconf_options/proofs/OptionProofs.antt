-- What holds of all words.
use Rattle.std.proofs.Common.{ℕ, List, ◌≡◌, ◌≢◌, Bool, true, false, not, refl, sym, ◌∙◌, ap, subst, arith}
use Rattle.std.specs.Prelude.{◌&&◌, ◌==◌, if◌then◌else◌}
use Rattle.dconf_options.specs.Words.{is_name, lint_option, watch_option, word_of}
use Rattle.dconf_options.specs.Options.{as_name, as_word, option_after, options_end, read_with, saying}
use Rattle.dconf_options.specs.OptionLaws.{NoWordIsLost}
use Rattle.dconf_options.specs.declared.words.Word.{Word}
use Rattle.dconf_options.specs.declared.options.OptionsRead.{OptionsRead}
use Rattle.dconf_options.specs.declared.options.Taken.{Taken}
use Rattle.dconf_options.specs.declared.options.Said.{Said}

-- ---- choices

first : {X : Type 0} (a : Bool) (x y : X) → a ≡ true → (if a then x else y) ≡ x
first true x y e = refl
first false x y e = absurd (let bad : false ≡ true = e in cc)

second : {X : Type 0} (a : Bool) (x y : X) → a ≡ false → (if a then x else y) ≡ y
second true x y e = absurd (let bad : true ≡ false = e in cc)
second false x y e = refl

fourth : {X : Type 0} (a b c : Bool) (w x y z : X) → a ≡ false → b ≡ false → c ≡ false → (if a then w else if b then x else if c then y else z) ≡ z
fourth a b c w x y z e f g = second a _ _ e ∙ (second b _ _ f ∙ second c _ _ g)

zero_if : (n : ℕ) → (n == 0) ≡ true → n ≡ 0
zero_if n e = grind arith

-- ---- what is said where no option waits

unwanted : (r : OptionsRead) (word : List ℕ) → r.wants ≡ 0 → option_after r word ≡ (if r.is_over then as_name r else as_word r (word_of r.is_lint word))
unwanted r word e =
    second (r.wants == 1) _ _ (ap (λ n. n == 1) e) ∙ second (r.wants == 2) _ _ (ap (λ n. n == 2) e)

by_word : (r : OptionsRead) (word : List ℕ) → r.wants ≡ 0 → r.is_over ≡ false → option_after r word ≡ as_word r (word_of r.is_lint word)
by_word r word e o = unwanted r word e ∙ second r.is_over _ _ o

-- ---- an option in two words

abbrev folder_by : OptionsRead → Bool → Bool → Taken
folder_by r folder user =
    if folder then saying r Said.Twice else if user then saying r Said.Excluded else
    record { read = read_with r 1 r.is_over true r.is_user r.has_name; said = Said.Nothing; from = 0 }

folder_taken : (r : OptionsRead) (folder user : Bool) → (folder_by r folder user).said ≡ Said.Nothing →
    folder_by r folder user ≡ record { read = read_with r 1 r.is_over true r.is_user r.has_name; said = Said.Nothing; from = 0 }
folder_taken r true user e = absurd (let bad : Said.Twice ≡ Said.Nothing = e in cc)
folder_taken r false true e = absurd (let bad : Said.Excluded ≡ Said.Nothing = e in cc)
folder_taken r false false e = refl

abbrev IsFolder : List ℕ → Taken → Type 0
IsFolder argument t =
    ((option_after t.read argument).said ≡ Said.Folder) × ((option_after t.read argument).read.has_folder ≡ true) × ((option_after t.read argument).read.wants ≡ 0)

two_words : (r : OptionsRead) (word argument : List ℕ) → r.wants ≡ 0 → r.is_over ≡ false → word_of r.is_lint word ≡ Word.WantsFolder →
    (option_after r word).said ≡ Said.Nothing → IsFolder argument (option_after r word)
two_words r word argument e o w n =
    let is : option_after r word ≡ folder_by r r.has_folder r.is_user = by_word r word e o ∙ ap (as_word r) w in
    let whole : option_after r word ≡ record { read = read_with r 1 r.is_over true r.is_user r.has_name; said = Said.Nothing; from = 0 } =
    is ∙ folder_taken r r.has_folder r.is_user (ap (λ t. t.said) (sym is) ∙ n) in
    subst (IsFolder argument) (sym whole) (refl, refl, refl)

twice : (r : OptionsRead) (word : List ℕ) → r.wants ≡ 0 → r.is_over ≡ false → r.has_folder ≡ true → word_of r.is_lint word ≡ Word.Folder →
    (option_after r word).said ≡ Said.Twice
twice r word e o f w = ap (λ t. t.said) (by_word r word e o ∙ (ap (as_word r) w ∙ first r.has_folder _ _ f))

-- ---- what is no name

folder_no_name : (r : OptionsRead) (folder user : Bool) (t : Taken) → t.said ≢ Said.Name →
    (if folder then saying r Said.Twice else if user then saying r Said.Excluded else t).said ≢ Said.Name
folder_no_name r true user t n e = let bad : Said.Twice ≡ Said.Name = e in cc
folder_no_name r false true t n e = let bad : Said.Excluded ≡ Said.Name = e in cc
folder_no_name r false false t n e = n e

user_no_name : (r : OptionsRead) (user folder : Bool) (t : Taken) → t.said ≢ Said.Name →
    (if user then saying r Said.Twice else if folder then saying r Said.Excluded else t).said ≢ Said.Name
user_no_name r user folder t n e = folder_no_name r user folder t n e

nothing_no_name : Said.Nothing ≢ Said.Name
nothing_no_name e = let bad : Said.Nothing ≡ Said.Name = e in cc

folder_is_no_name : Said.Folder ≢ Said.Name
folder_is_no_name e = let bad : Said.Folder ≡ Said.Name = e in cc

word_no_name : (r : OptionsRead) (w : Word) → w ≢ Word.Name → (as_word r w).said ≢ Said.Name
word_no_name r Word.Name n e = n refl
word_no_name r Word.Help n e = let bad : Said.Help ≡ Said.Name = e in cc
word_no_name r Word.Divider n e = nothing_no_name e
word_no_name r Word.WantsFolder n e = folder_no_name r r.has_folder r.is_user _ nothing_no_name e
word_no_name r Word.Folder n e = folder_no_name r r.has_folder r.is_user _ folder_is_no_name e
word_no_name r Word.WantsSchema n e = nothing_no_name e
word_no_name r Word.Schema n e = let bad : Said.Schema ≡ Said.Name = e in cc
word_no_name r Word.User n e = user_no_name r r.is_user r.has_folder _ nothing_no_name e
word_no_name r Word.Json n e = let bad : Said.Json ≡ Said.Name = e in cc
word_no_name r Word.Unknown n e = let bad : Said.Unknown ≡ Said.Name = e in cc

watch_no_name : (a b c : Bool) → (if a then Word.WantsFolder else if b then Word.Folder else if c then Word.User else Word.Unknown) ≢ Word.Name
watch_no_name true b c e = let bad : Word.WantsFolder ≡ Word.Name = e in cc
watch_no_name false true c e = let bad : Word.Folder ≡ Word.Name = e in cc
watch_no_name false false true e = let bad : Word.User ≡ Word.Name = e in cc
watch_no_name false false false e = let bad : Word.Unknown ≡ Word.Name = e in cc

lint_no_name : (a b c d f : Bool) →
    (if a then Word.WantsFolder else if b then Word.Folder else if c then Word.WantsSchema else if d then Word.Schema else if f then Word.Json else Word.Unknown) ≢ Word.Name
lint_no_name true b c d f e = let bad : Word.WantsFolder ≡ Word.Name = e in cc
lint_no_name false true c d f e = let bad : Word.Folder ≡ Word.Name = e in cc
lint_no_name false false true d f e = let bad : Word.WantsSchema ≡ Word.Name = e in cc
lint_no_name false false false true f e = let bad : Word.Schema ≡ Word.Name = e in cc
lint_no_name false false false false true e = let bad : Word.Json ≡ Word.Name = e in cc
lint_no_name false false false false false e = let bad : Word.Unknown ≡ Word.Name = e in cc

of_no_name : (h d l : Bool) (x y : Word) → x ≢ Word.Name → y ≢ Word.Name → (if h then Word.Help else if d then Word.Divider else if l then x else y) ≢ Word.Name
of_no_name true d l x y n m e = let bad : Word.Help ≡ Word.Name = e in cc
of_no_name false true l x y n m e = let bad : Word.Divider ≡ Word.Name = e in cc
of_no_name false false true x y n m e = n e
of_no_name false false false x y n m e = m e

word_of_no_name : (is_lint : Bool) (word : List ℕ) → is_name word ≡ false → word_of is_lint word ≢ Word.Name
word_of_no_name is_lint word n e =
    of_no_name _ _ is_lint (lint_option word) (watch_option word) (lint_no_name _ _ _ _ _) (watch_no_name _ _ _) (sym (second (is_name word) _ _ n) ∙ e)

option : (r : OptionsRead) (word : List ℕ) → r.wants ≡ 0 → r.is_over ≡ false → is_name word ≡ false → (option_after r word).said ≢ Said.Name
option r word e o n s = word_no_name r (word_of r.is_lint word) (word_of_no_name r.is_lint word n) (ap (λ t. t.said) (sym (by_word r word e o)) ∙ s)

-- ---- names

abbrev as_name_by : OptionsRead → Bool → Bool → Taken
as_name_by r lint has = if not lint && has then saying r Said.TooMany else saying (read_with r r.wants r.is_over r.has_folder r.is_user true) Said.Name

named : (r : OptionsRead) (lint has : Bool) → lint ≡ true → (as_name_by r lint has).said ≡ Said.Name
named r true has e = refl
named r false has e = absurd (let bad : false ≡ true = e in cc)

unnamed : (r : OptionsRead) (lint has : Bool) → lint ≡ false → has ≡ true → (as_name_by r lint has).said ≢ Said.Name
unnamed r true has l h e = let bad : true ≡ false = l in cc
unnamed r false false l h e = let bad : false ≡ true = h in cc
unnamed r false true l h e = let bad : Said.TooMany ≡ Said.Name = e in cc

name : (r : OptionsRead) (word : List ℕ) → r.wants ≡ 0 → r.is_over ≡ true → r.is_lint ≡ true → (option_after r word).said ≡ Said.Name
name r word e o l = ap (λ t. t.said) (unwanted r word e ∙ first r.is_over _ _ o) ∙ named r r.is_lint r.has_name l

word_unnamed : (r : OptionsRead) (w : Word) → r.is_lint ≡ false → r.has_name ≡ true → (as_word r w).said ≢ Said.Name
word_unnamed r Word.Name l h e = unnamed r r.is_lint r.has_name l h e
word_unnamed r Word.Help l h e = let bad : Said.Help ≡ Said.Name = e in cc
word_unnamed r Word.Divider l h e = nothing_no_name e
word_unnamed r Word.WantsFolder l h e = folder_no_name r r.has_folder r.is_user _ nothing_no_name e
word_unnamed r Word.Folder l h e = folder_no_name r r.has_folder r.is_user _ folder_is_no_name e
word_unnamed r Word.WantsSchema l h e = nothing_no_name e
word_unnamed r Word.Schema l h e = let bad : Said.Schema ≡ Said.Name = e in cc
word_unnamed r Word.User l h e = user_no_name r r.is_user r.has_folder _ nothing_no_name e
word_unnamed r Word.Json l h e = let bad : Said.Json ≡ Said.Name = e in cc
word_unnamed r Word.Unknown l h e = let bad : Said.Unknown ≡ Said.Name = e in cc

of_four : (a b c : Bool) (w x y z : Taken) → w.said ≢ Said.Name → x.said ≢ Said.Name → y.said ≢ Said.Name → z.said ≢ Said.Name →
    (if a then w else if b then x else if c then y else z).said ≢ Said.Name
of_four true b c w x y z n m o p e = n e
of_four false true c w x y z n m o p e = m e
of_four false false true w x y z n m o p e = o e
of_four false false false w x y z n m o p e = p e

schema_is_no_name : Said.Schema ≢ Said.Name
schema_is_no_name e = let bad : Said.Schema ≡ Said.Name = e in cc

one : (r : OptionsRead) (word : List ℕ) → r.is_lint ≡ false → r.has_name ≡ true → (option_after r word).said ≢ Said.Name
one r word l h = of_four (r.wants == 1) (r.wants == 2) r.is_over _ _ _ _ folder_is_no_name schema_is_no_name (unnamed r r.is_lint r.has_name l h) (word_unnamed r (word_of r.is_lint word) l h)

-- ---- at the end

abbrev end_by : Bool → Bool → Bool → Said
end_by is lint has = if not is then Said.Lacking else if not lint && not has then Said.NoName else if not has then Said.Machines else Said.Nothing

done_by : (is lint has : Bool) → end_by is lint has ≡ Said.Nothing → is ≡ true
done_by false lint has e = absurd (let bad : Said.Lacking ≡ Said.Nothing = e in cc)
done_by true lint has e = refl

named_by : (is lint has : Bool) → end_by is lint has ≡ Said.Nothing → has ≡ true
named_by is lint true e = refl
named_by false lint false e = absurd (let bad : Said.Lacking ≡ Said.Nothing = e in cc)
named_by true true false e = absurd (let bad : Said.Machines ≡ Said.Nothing = e in cc)
named_by true false false e = absurd (let bad : Said.NoName ≡ Said.Nothing = e in cc)

machines_by : (is lint has : Bool) → end_by is lint has ≡ Said.Machines → (lint ≡ true) × (has ≡ false)
machines_by false lint has e = absurd (let bad : Said.Lacking ≡ Said.Machines = e in cc)
machines_by true true false e = (refl, refl)
machines_by true true true e = absurd (let bad : Said.Nothing ≡ Said.Machines = e in cc)
machines_by true false false e = absurd (let bad : Said.NoName ≡ Said.Machines = e in cc)
machines_by true false true e = absurd (let bad : Said.Nothing ≡ Said.Machines = e in cc)

done : (r : OptionsRead) → options_end r ≡ Said.Nothing → r.wants ≡ 0
done r e = zero_if r.wants (done_by (r.wants == 0) r.is_lint r.has_name e)

pub no_word_is_lost : NoWordIsLost
no_word_is_lost r word argument = record {
  two_words = two_words r word argument;
  twice = twice r word;
  option = option r word;
  name = name r word;
  one = one r word;
  done = done r;
  named = named_by (r.wants == 0) r.is_lint r.has_name;
  machines = machines_by (r.wants == 0) r.is_lint r.has_name;
}
