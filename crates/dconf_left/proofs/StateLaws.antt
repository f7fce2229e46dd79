-- What records say of a file with one more in front.
use Rattle.std.proofs.Common.{ℕ, zero, suc, ◌+◌, ◌-◌, ◌*◌, ◌/◌, ◌<◌, ◌≤◌, ◌≡◌, ◌≢◌, ◌⊎◌, inl, inr, ⊎_elim, Bool, true, false, ◌&&◌, ◌==◌, List, [], ◌∷◌, ◌++◌, length, take, drop, get_or, refl, sym, ◌∙◌, ap, ap₂, arith, eq-eqb, eqb-true, length-append, length-drop, subst}
use Rattle.std.specs.Prelude.{⊤, if◌then◌else◌}
use Rattle.std.specs.Simd.{first_chunks}
use Rattle.std.proofs.lemmas.List.{take_at, drop_at, length-take-le}
use Rattle.gv_model.specs.BasicValue.{truth_bits}
use Rattle.dconf_files.specs.declared.stamp.FileStamp.{FileStamp}
use Rattle.dconf_left.specs.declared.files.LeftFile.{LeftFile}
use Rattle.dconf_left.specs.declared.states.LeftState.TheVariants.{Unknown, Left, Synced}
use Rattle.dconf_left.specs.Records.{file_in, is_one, left_file, number_at, numbers, record_bytes, synced_in}
use Rattle.dconf_left.specs.Left.{in_front, joined, left_state, others, records, state_of, with_left}
use Rattle.dconf_left.specs.Laws.{LeftIsFound, OthersStay}
use Rattle.dconf_left.proofs.NumberLaws.{length_all, placed}
use Rattle.dconf_left.proofs.RecordLaws.{records_more}

-- ---- a record that was written

number_of_record : (f : LeftFile) (synced : Bool) (i : ℕ) → i < 7 → number_at (record_bytes f synced) (8 * i) ≡ get_or (numbers f synced) i 0
number_of_record f synced i h =
    let width : 8 * i + 8 - 8 * i ≡ 8 = omega arith in
    rw width (placed (numbers f synced) i h)

file_of_record : (f : LeftFile) (synced : Bool) → file_in (record_bytes f synced) ≡ f
file_of_record f synced =
    let name : number_at (record_bytes f synced) 0 ≡ f.name = number_of_record f synced 0 (omega arith) in
    let device : number_at (record_bytes f synced) 8 ≡ f.device = number_of_record f synced 1 (omega arith) in
    let inode : number_at (record_bytes f synced) 16 ≡ f.inode = number_of_record f synced 2 (omega arith) in
    let size : number_at (record_bytes f synced) 24 ≡ f.size = number_of_record f synced 3 (omega arith) in
    let seconds : number_at (record_bytes f synced) 32 ≡ f.seconds = number_of_record f synced 4 (omega arith) in
    let nanoseconds : number_at (record_bytes f synced) 40 ≡ f.nanoseconds = number_of_record f synced 5 (omega arith) in
    rw (name, device, inode, size, seconds, nanoseconds) refl

bit_is_one : (b : Bool) → (truth_bits b == 1) ≡ b
bit_is_one true = refl
bit_is_one false = refl

synced_of_record : (f : LeftFile) (synced : Bool) → synced_in (record_bytes f synced) ≡ synced
synced_of_record f synced =
    let last : number_at (record_bytes f synced) 48 ≡ truth_bits synced = number_of_record f synced 6 (omega arith) in
    ap (λ n. n == 1) last ∙ bit_is_one synced

-- ---- one file

one_itself : (f : LeftFile) → is_one f f ≡ true
one_itself f = grind (arith, eq-eqb)

both_true : (a b : Bool) → (a && b) ≡ true → (a ≡ true) × (b ≡ true)
both_true true true e = (refl, refl)
both_true true false e = cc
both_true false b e = cc

abbrev with_all : (name device inode size seconds nanoseconds : ℕ) → LeftFile
with_all name device inode size seconds nanoseconds = record { name = name; device = device; inode = inode; size = size; seconds = seconds; nanoseconds = nanoseconds }

same_one : (f g : LeftFile) → is_one f g ≡ true → f ≡ g
same_one f g e =
    let a = both_true (((((f.nanoseconds == g.nanoseconds) && (f.seconds == g.seconds)) && (f.inode == g.inode)) && (f.size == g.size)) && (f.name == g.name)) (f.device == g.device) e in
    let b = both_true ((((f.nanoseconds == g.nanoseconds) && (f.seconds == g.seconds)) && (f.inode == g.inode)) && (f.size == g.size)) (f.name == g.name) a.0 in
    let c = both_true (((f.nanoseconds == g.nanoseconds) && (f.seconds == g.seconds)) && (f.inode == g.inode)) (f.size == g.size) b.0 in
    let d = both_true ((f.nanoseconds == g.nanoseconds) && (f.seconds == g.seconds)) (f.inode == g.inode) c.0 in
    let first = both_true (f.nanoseconds == g.nanoseconds) (f.seconds == g.seconds) d.0 in
    let nanoseconds : f.nanoseconds ≡ g.nanoseconds = eqb-true f.nanoseconds g.nanoseconds first.0 in
    let seconds : f.seconds ≡ g.seconds = eqb-true f.seconds g.seconds first.1 in
    let inode : f.inode ≡ g.inode = eqb-true f.inode g.inode d.1 in
    let size : f.size ≡ g.size = eqb-true f.size g.size c.1 in
    let name : f.name ≡ g.name = eqb-true f.name g.name b.1 in
    let device : f.device ≡ g.device = eqb-true f.device g.device a.1 in
    ap (λ (x : ℕ). with_all x f.device f.inode f.size f.seconds f.nanoseconds) name
    ∙ (ap (λ (x : ℕ). with_all g.name x f.inode f.size f.seconds f.nanoseconds) device
    ∙ (ap (λ (x : ℕ). with_all g.name g.device x f.size f.seconds f.nanoseconds) inode
    ∙ (ap (λ (x : ℕ). with_all g.name g.device g.inode x f.seconds f.nanoseconds) size
    ∙ (ap (λ (x : ℕ). with_all g.name g.device g.inode g.size x f.nanoseconds) seconds
    ∙ (ap (λ (x : ℕ). with_all g.name g.device g.inode g.size g.seconds x) nanoseconds)))))

not_by : (f g : LeftFile) (b : Bool) → is_one f g ≡ b → f ≢ g → b ≡ false
not_by f g true e other = absurd (other (same_one f g e))
not_by f g false e other = refl

not_one : (f g : LeftFile) → f ≢ g → is_one f g ≡ false
not_one f g other = not_by f g (is_one f g) refl other

-- ---- one more in front

at_front : (f : LeftFile) (synced : Bool) (rs : List (List ℕ)) → state_of f (record_bytes f synced ∷ rs) ≡ (if synced then Synced else Left)
at_front f synced rs =
    let is : is_one f (file_in (record_bytes f synced)) ≡ true = ap (is_one f) (file_of_record f synced) ∙ one_itself f in
    let says : synced_in (record_bytes f synced) ≡ synced = synced_of_record f synced in
    rw is (ap (λ b. if b then Synced else Left) says)

past_front : (f g : LeftFile) (synced : Bool) (rs : List (List ℕ)) → g ≢ f → state_of g (record_bytes f synced ∷ rs) ≡ state_of g rs
past_front f g synced rs other =
    let not : is_one g (file_in (record_bytes f synced)) ≡ false = ap (is_one g) (file_of_record f synced) ∙ not_one g f other in
    rw not refl

-- ---- records that are joined and cut again

abbrev AreWhole : List (List ℕ) → Type 0
AreWhole [] = ⊤
AreWhole (r ∷ rs) = (length r ≡ 56) × AreWhole rs

chunks_whole : (k : ℕ) (xs : List ℕ) → 56 * k ≤ length xs → AreWhole (first_chunks 56 k xs)
chunks_whole zero xs h = tt
chunks_whole (suc k) xs h = (length-take-le 56 xs (omega (arith, h)), chunks_whole k (drop 56 xs) (omega (arith, h, length-drop 56 xs)))

records_whole : (xs : List ℕ) → AreWhole (records xs)
records_whole xs = chunks_whole (length xs / 56) xs (omega arith)

take_whole : (m : ℕ) (rs : List (List ℕ)) → AreWhole rs → AreWhole (take m rs)
take_whole zero rs h = tt
take_whole (suc m) [] h = tt
take_whole (suc m) (r ∷ rs) h = (h.0, take_whole m rs h.1)

if_whole : (b : Bool) (rs ts : List (List ℕ)) → AreWhole rs → AreWhole ts → AreWhole (if b then rs else ts)
if_whole true rs ts h k = h
if_whole false rs ts h k = k

others_whole : (f : LeftFile) (rs : List (List ℕ)) → AreWhole rs → AreWhole (others f rs)
others_whole f [] h = tt
others_whole f (r ∷ rs) h = if_whole (is_one f (file_in r)) rs (r ∷ rs) h.1 h

front_whole : (name : List ℕ) (file : FileStamp) (synced : Bool) (rs : List (List ℕ)) → AreWhole rs → AreWhole (in_front name file synced rs)
front_whole name file synced rs h =
    if_whole file.is_there (record_bytes (left_file name file) synced ∷ others (left_file name file) rs) rs
    (length_all (numbers (left_file name file) synced), others_whole (left_file name file) rs h) h

records_joined : (rs : List (List ℕ)) → AreWhole rs → records (joined rs) ≡ rs
records_joined [] h = refl
records_joined (r ∷ rs) h =
    records_more (r ++ joined rs) (omega (arith, length-append r (joined rs), h.0))
    ∙ ap₂ (λ (x : List ℕ) (xs : List (List ℕ)). x ∷ xs) (take_at r (joined rs) 56 h.0) (ap records (drop_at r (joined rs) 56 h.0) ∙ records_joined rs h.1)

records_left : (left name : List ℕ) (file : FileStamp) (synced : Bool) (most : ℕ)
    → records (with_left left name file synced most) ≡ take most (in_front name file synced (records left))
records_left left name file synced most =
    records_joined (take most (in_front name file synced (records left)))
    (take_whole most (in_front name file synced (records left)) (front_whole name file synced (records left) (records_whole left)))

-- ---- what was put in front is found

found_in : (f : LeftFile) (synced : Bool) (rs : List (List ℕ)) (most : ℕ) → 0 < most → state_of f (take most (record_bytes f synced ∷ rs)) ≡ (if synced then Synced else Left)
found_in f synced rs zero some = absurd (omega arith)
found_in f synced rs (suc m) some = at_front f synced (take m rs)

pub left_is_found : LeftIsFound
left_is_found left name file synced most there some =
    let cut : records (with_left left name file synced most) ≡ take most (in_front name file synced (records left)) = records_left left name file synced most in
    let front : in_front name file synced (records left) ≡ record_bytes (left_file name file) synced ∷ others (left_file name file) (records left) =
    ap (λ b. if b then record_bytes (left_file name file) synced ∷ others (left_file name file) (records left) else records left) there in
    let is : left_state (with_left left name file synced most) name file ≡ state_of (left_file name file) (records (with_left left name file synced most)) =
    ap (λ b. if b then state_of (left_file name file) (records (with_left left name file synced most)) else Unknown) there in
    is ∙ (ap (λ rs. state_of (left_file name file) rs) (cut ∙ ap (λ (rs : List (List ℕ)). take most rs) front)
    ∙ found_in (left_file name file) synced (others (left_file name file) (records left)) most some)

-- ---- of the others the same is found, or nothing

-- of fewer records
abbrev Fewer : LeftFile → List (List ℕ) → ℕ → Type 0
Fewer g rs m = (state_of g (take m rs) ≡ state_of g rs) ⊎ ((state_of g (take m rs) ≡ Unknown) × (m < length rs))

fewer_by : (g : LeftFile) (r : List ℕ) (rs : List (List ℕ)) (m : ℕ) (b : Bool) → is_one g (file_in r) ≡ b → Fewer g rs m → Fewer g (r ∷ rs) (suc m)
fewer_by g r rs m true is rest = inl (rw is refl)
fewer_by g r rs m false is rest =
    ⊎_elim (λ (same : state_of g (take m rs) ≡ state_of g rs). inl (rw is same))
    (λ (none : (state_of g (take m rs) ≡ Unknown) × (m < length rs)). inr (rw is (none.0), omega (arith, none.1))) rest

fewer : (g : LeftFile) (rs : List (List ℕ)) (m : ℕ) → Fewer g rs m
fewer g [] zero = inl refl
fewer g [] (suc m) = inl refl
fewer g (r ∷ rs) zero = inr (refl, omega arith)
fewer g (r ∷ rs) (suc m) = fewer_by g r rs m (is_one g (file_in r)) refl (fewer g rs m)

-- what was dropped is not of g
others_by : (f g : LeftFile) (r : List ℕ) (rs : List (List ℕ)) (b : Bool) → is_one f (file_in r) ≡ b → g ≢ f → state_of g (if b then rs else r ∷ rs) ≡ state_of g (r ∷ rs)
others_by f g r rs false is other = refl
others_by f g r rs true is other =
    let not : is_one g (file_in r) ≡ false = not_one g (file_in r) (λ e. other (e ∙ sym (same_one f (file_in r) is))) in
    rw not refl

others_state : (f g : LeftFile) (rs : List (List ℕ)) → g ≢ f → state_of g (others f rs) ≡ state_of g rs
others_state f g [] other = refl
others_state f g (r ∷ rs) other = others_by f g r rs (is_one f (file_in r)) refl other

if_length : (b : Bool) (r : List ℕ) (rs : List (List ℕ)) → length (if b then rs else r ∷ rs) ≤ suc (length rs)
if_length true r rs = omega arith
if_length false r rs = omega arith

others_length : (f : LeftFile) (rs : List (List ℕ)) → length (others f rs) ≤ length rs
others_length f [] = omega arith
others_length f (r ∷ rs) = if_length (is_one f (file_in r)) r rs

abbrev Stays : LeftFile → List (List ℕ) → List (List ℕ) → ℕ → Type 0
Stays g new old most = (state_of g new ≡ state_of g old) ⊎ ((state_of g new ≡ Unknown) × (most ≤ length old))

stays_behind : (f g : LeftFile) (synced : Bool) (rs : List (List ℕ)) (most : ℕ) → g ≢ f → Stays g (take most (record_bytes f synced ∷ others f rs)) rs most
stays_behind f g synced rs zero other = inr (refl, omega arith)
stays_behind f g synced rs (suc m) other =
    let past : state_of g (record_bytes f synced ∷ take m (others f rs)) ≡ state_of g (take m (others f rs)) = past_front f g synced (take m (others f rs)) other in
    ⊎_elim (λ (same : state_of g (take m (others f rs)) ≡ state_of g (others f rs)). inl (past ∙ (same ∙ others_state f g rs other)))
    (λ (none : (state_of g (take m (others f rs)) ≡ Unknown) × (m < length (others f rs))). inr (past ∙ none.0, omega (arith, none.1, others_length f rs)))
    (fewer g (others f rs) m)

stays_alone : (g : LeftFile) (rs : List (List ℕ)) (most : ℕ) → Stays g (take most rs) rs most
stays_alone g rs most =
    ⊎_elim (λ (same : state_of g (take most rs) ≡ state_of g rs). inl same)
    (λ (none : (state_of g (take most rs) ≡ Unknown) × (most < length rs)). inr (none.0, omega (arith, none.1)))
    (fewer g rs most)

stays_by : (f g : LeftFile) (there synced : Bool) (rs : List (List ℕ)) (most : ℕ) → g ≢ f → Stays g (take most (if there then record_bytes f synced ∷ others f rs else rs)) rs most
stays_by f g true synced rs most other = stays_behind f g synced rs most other
stays_by f g false synced rs most other = stays_alone g rs most

-- a file that isn't there is not looked for
seen_by : (g : LeftFile) (there : Bool) (new old : List (List ℕ)) (most : ℕ) → Stays g new old most
    → ((if there then state_of g new else Unknown) ≡ (if there then state_of g old else Unknown)) ⊎ (((if there then state_of g new else Unknown) ≡ Unknown) × (most ≤ length old))
seen_by g true new old most stays = stays
seen_by g false new old most stays = inl refl

pub others_stay : OthersStay
others_stay left name other file seen synced most different =
    let cut : records (with_left left name file synced most) ≡ take most (in_front name file synced (records left)) = records_left left name file synced most in
    seen_by (left_file other seen) seen.is_there (records (with_left left name file synced most)) (records left) most
    (subst (λ rs. Stays (left_file other seen) rs (records left) most) (sym cut) (stays_by (left_file name file) (left_file other seen) file.is_there synced (records left) most different))
