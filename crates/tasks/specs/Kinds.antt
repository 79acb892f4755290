-- The byte that stands for a kind of task. Assumes nothing.
use Rattle.std.specs.Prelude.{◌≡◌, ℕ, ◌<◌, Result, MatchResult}
use Rattle.tasks.specs.declared.kind.Kind.{Kind}
use Rattle.tasks.specs.declared.kind.Kind.TheVariants.{Tolerable, Strict}
use Rattle.tasks.specs.declared.kind.UnknownKind.{UnknownKind}

-- 0 tolerable, 1 strict
abbrev pub kind_byte : Kind → ℕ
kind_byte Tolerable = 0
kind_byte Strict = 1

-- the kind that a byte stands for, or the byte back where it stands for none
abbrev pub Named : ℕ → Result Kind UnknownKind → Type 0
Named byte r = MatchResult r (λ kind. kind_byte kind ≡ byte) (λ u. (u.0 ≡ byte) × (1 < byte))
