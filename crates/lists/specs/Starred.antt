-- The starred cases of "Numbers at the edges".
use Rattle.std.specs.Prelude.{◌≡◌, List, [], ◌∷◌, ◌++◌, map, ℕ, set, replicate}
use Rattle.layout.specs.Layout.{at, table, packed}
use Rattle.modes.specs.declared.Initial.TheVariants.{None, Number}
use Rattle.modes.specs.declared.Mode.TheVariants.{Plain, Sorted, Strict}
use Rattle.modes.specs.Entries.{entries}
use Rattle.answers.specs.Answers.{number_in}
use Rattle.blocks.specs.Calls.{unpacked, pack_refusal}
use Rattle.bodies.specs.Body.{body_of}
use Rattle.lists.specs.Calls.{write_refusal, read_refusal, read_output}

-- a case: what the definitions give, and what document 01 says
pub record Case : Type 0 where
  pub given : List ℕ
  pub said : List ℕ

-- count numbers, all 0 but for number k, which is v
abbrev only : ℕ → ℕ → ℕ → List ℕ
only count k v = set (replicate count 0) k v

unfoldable pub starred : List Case
starred =
    -- 1. "L=1, plain, n=2, entries 1, 2, 3, then 0: 8 bytes, the first 39 hex."
    record { given = packed 1 2 (entries Plain (at (1 ∷ 2 ∷ 3 ∷ []))); said = 0x39 ∷ replicate 7 0 }
    -- 2. "L=4, plain, n=1: only entry 1 is 1: byte 4 is 01. Only entry 4 is 1: byte 0 is 02."
    ∷ record { given = packed 4 1 (entries Plain (at (only 128 1 1))); said = only 16 4 0x01 }
    ∷ record { given = packed 4 1 (entries Plain (at (only 128 4 1))); said = only 16 0 0x02 }
    -- 3. "L=1, plain, n=31, only entry 1 is 3: byte 3 is 80 hex, byte 4 is 01, of 124."
    ∷ record { given = packed 1 31 (entries Plain (at (only 32 1 3))); said = set (only 124 3 0x80) 4 0x01 }
    -- 4. "L=8, plain, n=32, only entry 9 is 01020304 hex: bytes 36 to 39 are 04 03 02 01."
    ∷ record { given = packed 8 32 (entries Plain (at (only 256 9 0x01020304))); said = replicate 36 0 ++ (0x04 ∷ 0x03 ∷ 0x02 ∷ 0x01 ∷ replicate 984 0) }
    -- 5. "Strict, none, value 0: entry 0. Sorted, first 5, value 3: entry 4,294,967,294."
    ∷ record { given = entries (Strict None) (at (0 ∷ [])) 0 ∷ []; said = 0 ∷ [] }
    ∷ record { given = entries (Sorted 5) (at (3 ∷ [])) 0 ∷ []; said = 4294967294 ∷ [] }
    -- 6. "Strict, first 4,294,967,294, n=0: the block is 4,294,967,295, 0, 1, 2 and on."
    ∷ record { given = unpacked 1 (Strict (Number 4294967294)) [] 0; said = 4294967295 ∷ table (λ k. k) 31 }
    ∷ record { given = unpacked 4 (Strict (Number 4294967294)) [] 0; said = 4294967295 ∷ table (λ k. k) 127 }
    ∷ record { given = unpacked 8 (Strict (Number 4294967294)) [] 0; said = 4294967295 ∷ table (λ k. k) 255 }
    -- 8. "L=4, strict, none, list 0, 1, 2: body 00. An empty list has an empty body; body 00 with count 0 is 11."
    ∷ record { given = body_of 4 (Strict None) (0 ∷ 1 ∷ 2 ∷ []); said = 0x00 ∷ [] }
    ∷ record { given = body_of 4 (Strict None) []; said = [] }
    ∷ record { given = number_in (read_refusal 4 (Strict None) 0 (0x00 ∷ []) 0) ∷ []; said = 11 ∷ [] }
    -- 9. "L=1, plain: lists (1) and (1, 0) both have body 01 01 00 00 00; the count tells them apart."
    ∷ record { given = body_of 1 Plain (1 ∷ []); said = 0x01 ∷ 0x01 ∷ 0x00 ∷ 0x00 ∷ 0x00 ∷ [] }
    ∷ record { given = body_of 1 Plain (1 ∷ 0 ∷ []); said = 0x01 ∷ 0x01 ∷ 0x00 ∷ 0x00 ∷ 0x00 ∷ [] }
    ∷ record { given = read_output 1 Plain 1 (0x01 ∷ 0x01 ∷ 0x00 ∷ 0x00 ∷ 0x00 ∷ []) (7 ∷ 7 ∷ []); said = 1 ∷ 7 ∷ [] }
    ∷ record { given = read_output 1 Plain 2 (0x01 ∷ 0x01 ∷ 0x00 ∷ 0x00 ∷ 0x00 ∷ []) (7 ∷ 7 ∷ []); said = 1 ∷ 0 ∷ [] }
    -- 10. "L=1, plain, count 1: body 01 03 00 00 00 is 10; body 02 01 and seven 00 is 9."
    ∷ record { given = number_in (read_refusal 1 Plain 1 (0x01 ∷ 0x03 ∷ 0x00 ∷ 0x00 ∷ 0x00 ∷ []) 1) ∷ []; said = 10 ∷ [] }
    ∷ record { given = number_in (read_refusal 1 Plain 1 (0x02 ∷ 0x01 ∷ replicate 7 0x00) 1) ∷ []; said = 9 ∷ [] }
    -- 11. "Strict, none, list 4,294,967,295, 0: 8. As neighbours in a block they pack."
    ∷ record { given = number_in (write_refusal 1 (Strict None) (4294967295 ∷ 0 ∷ []) 1000) ∷ []; said = 8 ∷ [] }
    ∷ record { given = number_in (pack_refusal 1 (Strict None) (4294967295 ∷ table (λ k. k) 31) 128 32) ∷ []; said = 0 ∷ [] }
    ∷ record { given = number_in (pack_refusal 1 (Strict (Number 4294967294)) (4294967295 ∷ table (λ k. k) 31) 0 0) ∷ []; said = 0 ∷ [] }
    ∷ []

-- "one table of the definitions with a single proved claim" (proofs/Starred, starred_hold)
abbrev pub StarredHold : Type 0
StarredHold = map (λ c. c.given) starred ≡ map (λ c. c.said) starred
