-- What was read of an input.
use Rattle.std.specs.Prelude.{◌≡◌, ℕ, ◌<◌, ◌⊎◌, List, length, IfSome}
use Rattle.std.specs.declared.option.Option.{Option}

-- all of an input, where that is known
abbrev pub IsWhole : Option (List ℕ) → List ℕ → Type 0
IsWhole input bytes = IfSome input (λ all. all ≡ bytes)

-- all of an input, or else more than its limit allows, as what is read of a longer input, and after a read that failed
abbrev pub IsSeen : ℕ → Option (List ℕ) → List ℕ → Type 0
IsSeen limit input bytes = IsWhole input bytes ⊎ (limit < length bytes)
