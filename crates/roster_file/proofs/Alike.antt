-- Entries are told by their bytes. Assumes nothing.
use Rattle.std.proofs.Common.{◌≡◌, ℕ, ◌*◌, ◌/◌, ◌%◌, ◌^◌, ◌<◌, ◌⊎◌, List, [], ◌∷◌, ◌++◌, sym, refl, ap, ◌∙◌, subst, inl, inr, arith}
use Rattle.std.proofs.lemmas.List.{append_assoc}
use Rattle.std.specs.List.{flat_map, AllByRecursion}
use Rattle.tasks.specs.declared.kind.Kind.{Kind}
use Rattle.tasks.specs.declared.kind.Kind.TheVariants.{Tolerable, Strict}
use Rattle.tasks.specs.declared.row.Row.{Row}
use Rattle.tasks.specs.Kinds.{kind_byte}
use Rattle.roster_file.specs.Entries.{time_bytes, task_bytes, TaskFits}
use Rattle.roster_file.specs.declared.task_section.TaskEntry.{TaskEntry}

kind_same : (k l : Kind) → kind_byte k ≡ kind_byte l → k ≡ l
kind_same Tolerable Tolerable e = refl
kind_same Tolerable Strict e = absurd (omega arith)
kind_same Strict Tolerable e = absurd (omega arith)
kind_same Strict Strict e = refl

shorter : (n k : ℕ) → n < 256 * k → n / 256 < k
shorter n k h = omega arith

top : (n : ℕ) → n < 2 ^ 32 → n / 256 / 256 / 256 < 256
top n h = shorter _ 256 (shorter _ 65536 (shorter n 16777216 h))

small : (m n : ℕ) → m < 256 → n < 256 → m % 256 ≡ n % 256 → m ≡ n
small m n p q e = omega arith

halves : (m n : ℕ) → m % 256 ≡ n % 256 → m / 256 ≡ n / 256 → m ≡ n
halves m n p q = omega arith

time_same : (m n : ℕ) → m < 2 ^ 32 → n < 2 ^ 32 → m % 256 ≡ n % 256 → m / 256 % 256 ≡ n / 256 % 256 → m / 256 / 256 % 256 ≡ n / 256 / 256 % 256 → m / 256 / 256 / 256 % 256 ≡ n / 256 / 256 / 256 % 256 → m ≡ n
time_same m n lm ln a b c d =
    let e3 = small (m / 256 / 256 / 256) (n / 256 / 256 / 256) (top m lm) (top n ln) d in
    halves m n a (halves (m / 256) (n / 256) b (halves (m / 256 / 256) (n / 256 / 256) c e3))

times_same : (m n : ℕ) (xs ys : List ℕ) → m < 2 ^ 32 → n < 2 ^ 32 → time_bytes m ++ xs ≡ time_bytes n ++ ys → (m ≡ n) × (xs ≡ ys)
times_same m n xs ys lm ln e =
    let a : m % 256 ≡ n % 256 = cc in
    let b : m / 256 % 256 ≡ n / 256 % 256 = cc in
    let c : m / 256 / 256 % 256 ≡ n / 256 / 256 % 256 = cc in
    let d : m / 256 / 256 / 256 % 256 ≡ n / 256 / 256 / 256 % 256 = cc in
    let r : xs ≡ ys = cc in
    (time_same m n lm ln a b c d, r)

row_same : (r s : Row) → r.kind ≡ s.kind → r.normal ≡ s.normal → r.abnormal ≡ s.abnormal → r.section ≡ s.section → r.deadline ≡ s.deadline → r.period ≡ s.period → r ≡ s
row_same r s k n a q d p = λ i. record { kind = k i; normal = n i; abnormal = a i; section = q i; deadline = d i; period = p i }

pub entry_same : (e f : TaskEntry) → e.number ≡ f.number → e.row ≡ f.row → e ≡ f
entry_same e f n r = λ i. record { number = n i; row = r i }

-- an entry that fits is told by its bytes, whatever follows
pub task_same : (e f : TaskEntry) (xs ys : List ℕ) → TaskFits e → TaskFits f → task_bytes e ++ xs ≡ task_bytes f ++ ys → (e ≡ f) × (xs ≡ ys)
task_same e f xs ys (_, fe) (_, ff) q =
    let number : e.number ≡ f.number = cc in
    let kind : kind_byte e.row.kind ≡ kind_byte f.row.kind = cc in
    let rest : time_bytes e.row.normal ++ (time_bytes e.row.abnormal ++ (time_bytes e.row.section ++ (time_bytes e.row.deadline ++ (time_bytes e.row.period ++ xs))))
    ≡ time_bytes f.row.normal ++ (time_bytes f.row.abnormal ++ (time_bytes f.row.section ++ (time_bytes f.row.deadline ++ (time_bytes f.row.period ++ ys)))) = cc in
    let n = times_same _ _ _ _ fe.0 ff.0 rest in
    let a = times_same _ _ _ _ fe.1.0 ff.1.0 n.1 in
    let s = times_same _ _ _ _ fe.1.1.0 ff.1.1.0 a.1 in
    let d = times_same _ _ _ _ fe.1.1.1.0 ff.1.1.1.0 s.1 in
    let p = times_same _ _ _ _ fe.1.1.1.1.0 ff.1.1.1.1.0 d.1 in
    (entry_same e f number (row_same e.row f.row (kind_same _ _ kind) n.0 a.0 s.0 d.0 p.0), p.1)

-- the second list goes on where the first ends
abbrev pub GoesOn : List TaskEntry → List ℕ → List TaskEntry → Type 0
GoesOn es rest fs = (e : TaskEntry) × (more : List TaskEntry) × (after : List ℕ) × (fs ≡ es ++ (e ∷ more)) × (rest ≡ task_bytes e ++ after)

abbrev pub Compared : List TaskEntry → List ℕ → List TaskEntry → List ℕ → Type 0
Compared es rest fs rest' = ((es ≡ fs) × (rest ≡ rest')) ⊎ (GoesOn es rest fs ⊎ GoesOn fs rest' es)

push : (e : TaskEntry) (es fs : List TaskEntry) (rest rest' : List ℕ) → Compared es rest fs rest' → Compared (e ∷ es) rest (e ∷ fs) rest'
push e es fs rest rest' (inl (p, q)) = inl (ap (λ xs. e ∷ xs) p, q)
push e es fs rest rest' (inr (inl (f, more, after, p, q))) = inr (inl (f, more, after, ap (λ xs. e ∷ xs) p, q))
push e es fs rest rest' (inr (inr (f, more, after, p, q))) = inr (inr (f, more, after, ap (λ xs. e ∷ xs) p, q))

-- of two lists of entries with which the same bytes begin, one goes on where the other ends
pub compared : (es fs : List TaskEntry) (rest rest' : List ℕ) → AllByRecursion TaskFits es → AllByRecursion TaskFits fs → flat_map task_bytes es ++ rest ≡ flat_map task_bytes fs ++ rest' → Compared es rest fs rest'
compared [] [] rest rest' ef ff q = inl (refl, q)
compared [] (f ∷ fs) rest rest' ef ff q = inr (inl (f, fs, _, refl, q ∙ append_assoc (task_bytes f) (flat_map task_bytes fs) rest'))
compared (e ∷ es) [] rest rest' ef ff q = inr (inr (e, es, _, refl, sym q ∙ append_assoc (task_bytes e) (flat_map task_bytes es) rest))
compared (e ∷ es) (f ∷ fs) rest rest' (fe, fes) (ff, ffs) q =
    let s = task_same e f (flat_map task_bytes es ++ rest) (flat_map task_bytes fs ++ rest') fe ff (sym (append_assoc (task_bytes e) (flat_map task_bytes es) rest) ∙ q ∙ append_assoc (task_bytes f) (flat_map task_bytes fs) rest') in
    subst (λ (x : TaskEntry). Compared (e ∷ es) rest (x ∷ fs) rest') s.0 (push e es fs rest rest' (compared es fs rest rest' fes ffs s.1))
