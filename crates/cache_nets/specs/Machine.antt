-- The cached fetch in equations over numbers, as its circuit computes them; a truth value is 1 or 0. There are 2 ^ l lines of 2 ^ k words.
use Rattle.std.specs.Prelude.{ℕ, ◌+◌, ◌-◌, eqb, bit_and, bit_or}
use Rattle.core_words.specs.Values.{add_of, bits_of, choose, join_of, not_of, one_if}

-- ---- parts of a pc and of a line's number

-- the index of the line of a pc, the place of its word there, and the line
unfoldable pub index_at : (l k pc : ℕ) → ℕ
index_at l k pc = bits_of pc (l + k + 1) (k + 2)

unfoldable pub place_at : (k pc : ℕ) → ℕ
place_at k pc = bits_of pc (k + 1) 2

unfoldable pub line_at : (k pc : ℕ) → ℕ
line_at k pc = bits_of pc 31 (k + 2)

-- the tag that the line of a pc has where it is held: a 1 above its upper bits
unfoldable pub tag_at : (l k pc : ℕ) → ℕ
tag_at l k pc = join_of (30 - k - l) 1 (bits_of pc 31 (l + k + 2))

-- the number of its word among those of all lines
unfoldable pub cell_at : (l k pc : ℕ) → ℕ
cell_at l k pc = join_of k (index_at l k pc) (place_at k pc)

-- the low bits of a line's number, or of the walk: an index
unfoldable pub index_in : (l line : ℕ) → ℕ
index_in l line = bits_of line (l - 1) 0

-- the tag of a line by its number, the number of a word of it, and the word's address
unfoldable pub tag_in : (l k line : ℕ) → ℕ
tag_in l k line = join_of (30 - k - l) 1 (bits_of line (29 - k) l)

unfoldable pub cell_in : (l k line place : ℕ) → ℕ
cell_in l k line place = join_of k (index_in l line) place

unfoldable pub address_in : (k line place : ℕ) → ℕ
address_in k line place = join_of 2 (join_of k line place) 0

-- ---- the search

-- the walk still clears tags
unfoldable pub walking_of : (l walk : ℕ) → ℕ
walking_of l walk = not_of 1 (bits_of walk l l)

-- nothing is at work, so that the pc is looked up
unfoldable pub looks_of : (given owed walking : ℕ) → ℕ
looks_of given owed walking = not_of 1 (bit_or (bit_or given owed) walking)

-- the line of the pc is held
unfoldable pub hit_of : (l k pc tag : ℕ) → ℕ
hit_of l k pc tag = one_if (eqb tag (tag_at l k pc))

-- a fill begins
unfoldable pub misses_of : (looks captured hit redirect : ℕ) → ℕ
misses_of looks captured hit redirect = bit_and looks (bit_and (not_of 1 (bit_or captured hit)) (not_of 1 redirect))

-- there is room for an item, and it moves there
unfoldable pub room_of : (full take : ℕ) → ℕ
room_of full take = bit_or (not_of 1 full) take

unfoldable pub moves_of : (looks captured hit room : ℕ) → ℕ
moves_of looks captured hit room = bit_and (bit_and looks (bit_or captured hit)) room

-- ---- the fill

unfoldable pub response_of : (owed answered : ℕ) → ℕ
response_of owed answered = bit_and owed answered

-- the word that comes is kept
unfoldable pub keeps_of : (owed answered dropped : ℕ) → ℕ
keeps_of owed answered dropped = bit_and (bit_and owed answered) (not_of 1 dropped)

-- it is the last of its line
unfoldable pub last_of : (k place : ℕ) → ℕ
last_of k place = one_if (eqb place (not_of k 0))

-- the fill goes on with the next word, or ends
unfoldable pub goes_on_of : (keeps last fence : ℕ) → ℕ
goes_on_of keeps last fence = bit_and keeps (bit_and (not_of 1 last) (not_of 1 fence))

unfoldable pub ends_of : (keeps last : ℕ) → ℕ
ends_of keeps last = bit_and keeps last

-- a word of it was an error
unfoldable pub flawed_of : (bad failed : ℕ) → ℕ
flawed_of bad failed = bit_or bad failed

-- the word of the pc that is looked up comes
unfoldable pub captures_of : (k keeps place pc : ℕ) → ℕ
captures_of k keeps place pc = bit_and keeps (one_if (eqb place (place_at k pc)))

-- ---- what the registers hold next

unfoldable pub pc_of : (redirect redirect_pc moves guess pc : ℕ) → ℕ
pc_of redirect redirect_pc moves guess pc = choose redirect redirect_pc (choose moves guess pc)

unfoldable pub walk_of : (l fence walking walk : ℕ) → ℕ
walk_of l fence walking walk = choose fence 0 (choose walking (add_of (l + 1) walk 1) walk)

unfoldable pub given_of : (misses goes_on given ready : ℕ) → ℕ
given_of misses goes_on given ready = bit_or misses (bit_or goes_on (bit_and given (not_of 1 ready)))

unfoldable pub owed_of : (given ready owed response : ℕ) → ℕ
owed_of given ready owed response = bit_or (bit_and given ready) (bit_and owed (not_of 1 response))

unfoldable pub dropped_of : (fence dropped given owed response : ℕ) → ℕ
dropped_of fence dropped given owed response = bit_and (bit_or fence dropped) (bit_or given (bit_and owed (not_of 1 response)))

unfoldable pub line_of : (k misses pc line : ℕ) → ℕ
line_of k misses pc line = choose misses (line_at k pc) line

unfoldable pub place_of : (k misses goes_on place : ℕ) → ℕ
place_of k misses goes_on place = choose misses 0 (choose goes_on (add_of k place 1) place)

unfoldable pub bad_of : (misses keeps flawed bad : ℕ) → ℕ
bad_of misses keeps flawed bad = bit_and (not_of 1 misses) (choose keeps flawed bad)

unfoldable pub wanted_of : (misses wanted redirect : ℕ) → ℕ
wanted_of misses wanted redirect = bit_and (bit_or misses wanted) (not_of 1 redirect)

unfoldable pub captured_of : (ends wanted flawed captured moves redirect : ℕ) → ℕ
captured_of ends wanted flawed captured moves redirect =
    bit_and (bit_or (bit_and ends (bit_and wanted flawed)) (bit_and captured (not_of 1 moves))) (not_of 1 redirect)

unfoldable pub full_of : (redirect moves full take : ℕ) → ℕ
full_of redirect moves full take = bit_and (not_of 1 redirect) (bit_or moves (bit_and full (not_of 1 take)))

-- ---- the writes

-- the walk clears a tag, or a fill that ends writes one, which is 0 where a word of it was an error
unfoldable pub writes_tag_of : (walking ends : ℕ) → ℕ
writes_tag_of walking ends = bit_or walking ends

unfoldable pub tag_index_of : (l walking walk line : ℕ) → ℕ
tag_index_of l walking walk line = choose walking (index_in l walk) (index_in l line)

unfoldable pub tag_of : (l k walking flawed line : ℕ) → ℕ
tag_of l k walking flawed line = choose (bit_or walking flawed) 0 (tag_in l k line)

-- ---- one cycle

-- the registers, the tag and the word that are looked up, what comes, and the pc behind the item that is looked up
pub record Now : Type 0 where
  pub pc : ℕ
  pub walk : ℕ
  pub given : ℕ
  pub owed : ℕ
  pub dropped : ℕ
  pub line : ℕ
  pub place : ℕ
  pub bad : ℕ
  pub wanted : ℕ
  pub captured : ℕ
  pub captured_word : ℕ
  pub captured_error : ℕ
  pub full : ℕ
  pub out_pc : ℕ
  pub out_word : ℕ
  pub out_error : ℕ
  pub tag : ℕ
  pub cell : ℕ
  pub take : ℕ
  pub redirect : ℕ
  pub redirect_pc : ℕ
  pub fence : ℕ
  pub ready : ℕ
  pub answered : ℕ
  pub failed : ℕ
  pub payload : ℕ
  pub guess : ℕ

pub record SearchNow : Type 0 where
  pub walking : ℕ
  pub misses : ℕ
  pub room : ℕ
  pub moves : ℕ
  -- the item that is looked up
  pub word : ℕ
  pub error : ℕ

pub record FillNow : Type 0 where
  pub response : ℕ
  pub keeps : ℕ
  pub goes_on : ℕ
  pub ends : ℕ
  pub flawed : ℕ
  pub captures : ℕ

-- the next values of four registers
pub record FourNow : Type 0 where
  pub first : ℕ
  pub second : ℕ
  pub third : ℕ
  pub fourth : ℕ

-- the write of an array
pub record WriteNow : Type 0 where
  pub enable : ℕ
  pub addr : ℕ
  pub item : ℕ

abbrev pub search_at : (l k : ℕ) → Now → SearchNow
search_at l k n = record {
  walking = walking_of l n.walk;
  misses = misses_of (looks_of n.given n.owed (walking_of l n.walk)) n.captured (hit_of l k n.pc n.tag) n.redirect;
  room = room_of n.full n.take;
  moves = moves_of (looks_of n.given n.owed (walking_of l n.walk)) n.captured (hit_of l k n.pc n.tag) (room_of n.full n.take);
  word = choose n.captured n.captured_word n.cell;
  error = bit_and n.captured n.captured_error;
}

abbrev pub fill_at : (k : ℕ) → Now → FillNow
fill_at k n = record {
  response = response_of n.owed n.answered;
  keeps = keeps_of n.owed n.answered n.dropped;
  goes_on = goes_on_of (keeps_of n.owed n.answered n.dropped) (last_of k n.place) n.fence;
  ends = ends_of (keeps_of n.owed n.answered n.dropped) (last_of k n.place);
  flawed = flawed_of n.bad n.failed;
  captures = captures_of k (keeps_of n.owed n.answered n.dropped) n.place n.pc;
}

module _ (l k : ℕ) (n : Now) (x : SearchNow) (y : FillNow) where
  -- pc, walk, given and owed
  abbrev pub front_after : FourNow
  front_after = record {
    first = pc_of n.redirect n.redirect_pc x.moves n.guess n.pc;
    second = walk_of l n.fence x.walking n.walk;
    third = given_of x.misses y.goes_on n.given n.ready;
    fourth = owed_of n.given n.ready n.owed y.response;
  }

  -- dropped, line, place and bad
  abbrev pub reading_after : FourNow
  reading_after = record {
    first = dropped_of n.fence n.dropped n.given n.owed y.response;
    second = line_of k x.misses n.pc n.line;
    third = place_of k x.misses y.goes_on n.place;
    fourth = bad_of x.misses y.keeps y.flawed n.bad;
  }

  -- wanted, captured, and the captured word and error
  abbrev pub caught_after : FourNow
  caught_after = record {
    first = wanted_of x.misses n.wanted n.redirect;
    second = captured_of y.ends n.wanted y.flawed n.captured x.moves n.redirect;
    third = choose y.captures n.payload n.captured_word;
    fourth = choose y.captures n.failed n.captured_error;
  }

  -- full, and the pc, word and error of the item
  abbrev pub item_after : FourNow
  item_after = record {
    first = full_of n.redirect x.moves n.full n.take;
    second = choose x.room n.pc n.out_pc;
    third = choose x.room x.word n.out_word;
    fourth = choose x.room x.error n.out_error;
  }

  abbrev pub tag_write : WriteNow
  tag_write = record { enable = writes_tag_of x.walking y.ends; addr = tag_index_of l x.walking n.walk n.line; item = tag_of l k x.walking y.flawed n.line }

  abbrev pub word_write : WriteNow
  word_write = record { enable = y.keeps; addr = cell_in l k n.line n.place; item = n.payload }
