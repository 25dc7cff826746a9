-- What a cell reads in a row of a capture, and a table of entries, one a cell: 1 + a net whose own word it may still have read, or 0.
use Rattle.std.specs.Prelude.{ℕ, zero, suc, ◌+◌, ◌*◌, ◌-◌, ◌/◌, ◌^◌, ◌≤◌, ◌<◌, ◌≡◌, Bool, true, not, ◌&&◌, ◌||◌, List, eqb, ltb, length, get_or}
use Rattle.std.specs.Bool.{xor}
use Rattle.base.specs.Tests.{all, any, digit}
use Rattle.base.specs.Digits.{bit}
use Rattle.rules.specs.Rows.{row_bytes, row_bit}
use Rattle.rules.specs.File.{most_number}
use Rattle.rules.specs.Refusals.{most_cells, most_vectors, most_bytes, most_width}
use Rattle.rules.specs.Vectors.{Bases, inserted_after, steps_of, vector_of}
use Rattle.rules.specs.declared.Step.TheVariants.{Base}
use Rattle.words.specs.Sets.{unlike}
use Rattle.plan.specs.declared.numbers.Plan.{Plan}
use Rattle.plan.specs.Plans.{bases_for, start_of}

-- net n's value in vector t of the plan
unfoldable pub value_at : Plan → ℕ → ℕ → Bool
value_at plan t = (vector_of (bases_for plan) (get_or (steps_of (bases_for plan)) t (Base 0))).value

-- in vector t the cell at c read something else than net n's value
unfoldable pub off_at : Plan → ℕ → List ℕ → ℕ → ℕ → ℕ → Bool
off_at plan bytes capture n c t = xor (row_bit capture (t * bytes) c) (value_at plan t n)

-- the cell at c read net n's own word in the first t vectors
unfoldable pub read_below : Plan → ℕ → List ℕ → ℕ → ℕ → ℕ → Bool
read_below plan bytes capture t n c = all t (λ u. not (off_at plan bytes capture n c u))

-- the same of the vectors of any base vectors, whether or not they are a plan's
abbrev pub read_in : Bases → ℕ → List ℕ → ℕ → ℕ → ℕ → Bool
read_in s bytes capture t n c = all t (λ u. not (xor (row_bit capture (u * bytes) c) ((vector_of s (get_or (steps_of s) u (Base 0))).value n)))

-- an entry with the bits read in the first j base vectors behind it
unfoldable pub code_from : Plan → ℕ → List ℕ → ℕ → ℕ → ℕ → ℕ
code_from plan bytes capture zero c code = code
code_from plan bytes capture (suc j) c code = 2 * code_from plan bytes capture j c code + digit (row_bit capture (start_of plan j * bytes) c)

-- where the second group begins, if there is one: from here on the values of the vectors are those of the first group once more
unfoldable pub period : Plan → ℕ
period plan = start_of plan plan.wide

-- a cell of this entry may not change its reading where these nets change: it names none of them
unfoldable pub stray : (ℕ → Bool) → ℕ → Bool
stray changing zero = true
stray changing (suc n) = not (changing n)

-- digit i of a byte of cells that stay, where these digits differ between two rows and these are the cells' entries
unfoldable pub staying : ℕ → ℕ → (ℕ → Bool) → List ℕ → ℕ → Bool
staying left unlike changing entries i = bit left i && not (bit unlike i && stray changing (get_or entries i 0))

-- the cell at c reads otherwise in the row from `other` on than in that from `at` on, and its entry names no net that changes between them
unfoldable pub stray_at : List ℕ → ℕ → ℕ → (ℕ → Bool) → List ℕ → ℕ → Bool
stray_at capture at other changing table c = xor (row_bit capture at c) (row_bit capture other c) && stray changing (get_or table c 0)

-- so it does between vectors t and u of rows of so many bytes
abbrev pub stray_rows : List ℕ → ℕ → List ℕ → ℕ → ℕ → (ℕ → Bool) → ℕ → Bool
stray_rows capture bytes table t u changing = stray_at capture (t * bytes) (u * bytes) changing table

-- the cell at c changes its reading after vector t, and its entry's net does not change there
unfoldable pub stray_after : Plan → ℕ → List ℕ → List ℕ → ℕ → ℕ → Bool
stray_after plan bytes capture table c t =
    stray_at capture (t * bytes) ((t + 1) * bytes) (unlike (value_at plan t) (value_at plan (t + 1))) table c

-- it does so among the vectors inserted after base vector i, the next base vector included
unfoldable pub stray_in : Plan → ℕ → List ℕ → List ℕ → ℕ → ℕ → Bool
stray_in plan bytes capture table c i =
    let extra : ℕ = inserted_after (bases_for plan) i in
    ltb 0 extra && any (1 + extra) (λ k. stray_after plan bytes capture table c (start_of plan i + k))

-- the cell at c reads otherwise in vector u than in the one `first` vectors later
unfoldable pub other_later : ℕ → ℕ → List ℕ → ℕ → ℕ → Bool
other_later first bytes capture c u = xor (row_bit capture ((first + u) * bytes) c) (row_bit capture (u * bytes) c)

-- the cell at c has so read something else than its entry's net somewhere
unfoldable pub lost : Plan → ℕ → List ℕ → List ℕ → ℕ → Bool
lost plan bytes capture table c =
    any plan.wide (stray_in plan bytes capture table c) || any (length (steps_of (bases_for plan)) - period plan) (other_later (period plan) bytes capture c)

-- the entries of the cells below n have become f of what they were, the others are as before
pub record Mapped (f : ℕ → ℕ → ℕ) (before : List ℕ) (n : ℕ) (after : List ℕ) : Type 0 where
  pub long : length after ≡ length before
  pub done : (c : ℕ) → c < n → get_or after c 0 ≡ f c (get_or before c 0)
  pub rest : (c : ℕ) → n ≤ c → get_or after c 0 ≡ get_or before c 0

-- the entries of the cells below n have become such as P allows of the cell and what they were, the others are as before
pub record MappedBy (P : ℕ → ℕ → ℕ → Type 0) (before : List ℕ) (n : ℕ) (after : List ℕ) : Type 0 where
  pub long : length after ≡ length before
  pub done : (c : ℕ) → c < n → P c (get_or before c 0) (get_or after c 0)
  pub rest : (c : ℕ) → n ≤ c → get_or after c 0 ≡ get_or before c 0

-- a bit for each cell in `left`, as in a row: of the cells below n those stay that are not lost, the others are as before
pub record Left (lost : ℕ → Bool) (before : List ℕ) (n : ℕ) (after : List ℕ) : Type 0 where
  pub long : length after ≡ length before
  pub done : (c : ℕ) → c < n → row_bit after 0 c ≡ (row_bit before 0 c && not (lost c))
  pub rest : (c : ℕ) → n ≤ c → row_bit after 0 c ≡ row_bit before 0 c

-- the capture has a row of so many cells from `at` on, no more than a board has
pub record Scanned (capture : List ℕ) (at cells : ℕ) : Type 0 where
  pub cells-bounded : cells ≤ most_cells
  pub inside : at + row_bytes cells ≤ length capture

-- a code of two bytes with room for one bit more
abbrev pub most_half : ℕ
most_half = most_number / 2

-- a table with an entry for each cell, none above `most`
pub record Entries (most cells : ℕ) (table : List ℕ) : Type 0 where
  pub long : cells ≤ length table
  pub entries-bounded : (c : ℕ) → c < cells → get_or table c 0 ≤ most

-- a capture of all vectors of a plan, and loose bounds within which no place overflows
pub record Captured (plan : Plan) (capture : List ℕ) (cells bytes : ℕ) : Type 0 where
  pub narrow : plan.wide ≤ most_width
  pub coded : plan.nets + 2 ≤ 2 ^ plan.wide
  pub cells-bounded : cells ≤ most_cells
  pub bytes-are : bytes ≡ row_bytes cells
  pub vectors : length (steps_of (bases_for plan)) ≤ most_vectors
  pub rows_are : length capture ≡ length (steps_of (bases_for plan)) * bytes

-- what of this the rows themselves need
pub record Rowed (plan : Plan) (capture : List ℕ) (bytes : ℕ) : Type 0 where
  pub short : bytes ≤ most_bytes
  pub vectors : length (steps_of (bases_for plan)) ≤ most_vectors
  pub rows_are : length capture ≡ length (steps_of (bases_for plan)) * bytes

-- part i of the plan begins at vector t, and has so many vectors after its base vector
pub record Part (plan : Plan) (i extra t : ℕ) : Type 0 where
  pub below : i < plan.groups * plan.wide
  pub extra-is : extra ≡ inserted_after (bases_for plan) i
  pub start_is : t ≡ start_of plan i

-- each cell's entry is 1 + the net whose own word it reads in every vector, or 0
pub record Read (plan : Plan) (capture before : List ℕ) (cells : ℕ) (after : List ℕ) : Type 0 where
  pub long : length after ≡ length before
  pub entries-bounded : (c : ℕ) → c < cells → get_or after c 0 ≤ plan.nets
  pub reads : (c n : ℕ) → c < cells → n < plan.nets → eqb (get_or after c 0) (suc n) ≡ read_below plan (row_bytes cells) capture (length (steps_of (bases_for plan))) n c
  pub rest : (c : ℕ) → cells ≤ c → get_or after c 0 ≡ get_or before c 0
