-- "List file" of document 01: a header, and its text.
use Rattle.std.specs.Prelude.{◌≡◌, true, cond, List, [], ◌∷◌, ℕ, ◌^◌, ◌<◌, eqb, length}
use Rattle.modes.specs.declared.Initial.TheVariants.{None, Number}
use Rattle.modes.specs.declared.Mode.{Mode}
use Rattle.modes.specs.declared.Mode.TheVariants.{Plain, Sorted, Strict}
use Rattle.modes.specs.Entries.{first_of}
use Rattle.layout.specs.Layout.{is_lanes}
use Rattle.order.specs.Order.{starting}
use Rattle.text.specs.Text.{word, decimal, line}
use Rattle.files.specs.declared.heading.Header.{Header}

-- "`mode=` plain, sorted or strict"
abbrev pub mode_word : Mode → List ℕ
mode_word Plain = word "plain"
mode_word (Sorted f) = word "sorted"
mode_word (Strict i) = word "strict"

-- "`first` is `none` for plain, a number for sorted, and `none` or a number up to 4,294,967,294 for strict; strict with
-- 4,294,967,295 is written `none`."
abbrev pub first_text : Mode → List ℕ
first_text Plain = word "none"
first_text (Sorted f) = decimal f
first_text (Strict None) = word "none"
first_text (Strict (Number f)) = cond (eqb f 4294967295) (word "none") (decimal f)

-- "Order: `lanes=` 1, 4 or 8; `mode=` ..; `first=`; ..": the three lines that say how a list is packed, with a rest behind them
abbrev pub settings : ℕ → Mode → List ℕ → List ℕ
settings L m rest =
    line "lanes=" (decimal L)
    (line "mode=" (mode_word m)
    (line "first=" (first_text m)
    rest))

-- "Five lines, then an empty line, then the body."
unfoldable pub file_of : Header → List ℕ → List ℕ
file_of h body =
    settings h.lanes h.mode
    (line "count=" (decimal h.count)
    (line "bytes=" (decimal h.bytes)
    (10 ∷ body)))

-- the header that is read back from its text: as it was, with none for strict's 4,294,967,295
abbrev pub read_back : Header → Header
read_back h = record { lanes = h.lanes; mode = starting h.mode; count = h.count; bytes = h.bytes }

-- the text of a header alone
abbrev pub header_text : Header → List ℕ
header_text h = file_of h []

-- the lanes and modes that a header tells: "`lanes=` 1, 4 or 8", a first number "at most 4,294,967,295", and not that one in strict
pub record Sound (L : ℕ) (m : Mode) : Type 0 where
  pub lanes : is_lanes L ≡ true
  pub mode : starting m ≡ m
  pub first : first_of m < 2 ^ 32

-- the headers that there are: these, with "numbers .. at most 4,294,967,295"
pub record IsHeader (h : Header) : Type 0 where
  pub told : Sound h.lanes h.mode
  pub count : h.count < 2 ^ 32
  pub bytes : h.bytes < 2 ^ 32

-- file is the header h with the body behind it, and "`bytes=`, the body's length"
pub record Heads (file : List ℕ) (h : Header) (body : List ℕ) : Type 0 where
  pub sound : IsHeader h
  pub whole : file ≡ file_of h body
  pub agrees : h.bytes ≡ length body

-- a text is the three lines of the settings, for some lanes and mode, with a rest behind them
pub record Sets (text : List ℕ) (L : ℕ) (m : Mode) (rest : List ℕ) : Type 0 where
  pub told : Sound L m
  pub whole : text ≡ settings L m rest
