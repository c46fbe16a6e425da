-- The lines of a range, one live number after another.
use Rattle.std.proofs.Common.{◌≡◌, ◌+◌, ℕ, List, [], ◌++◌, Some, None}
use Rattle.arch_model.specs.Archives.{Archive, Entry, live}
use Rattle.shelf_doors.specs.Numbers.{live_in, first_of}
use Rattle.shelf_doors.proofs.Walking.{lines-rest, lines-none}
use Rattle.nntp_reader.specs.Facts.{line_at, fact_lines}
use Rattle.nntp_reader.specs.Headers.{field_at, field_lines}
use Rattle.nntp_reader.specs.declared.fact.Fact.{Fact}

pub facts-rest : (what : Fact) (a : Archive) (first last n : ℕ) → first_of (live_in (live a.entries) first last) ≡ Some n → fact_lines what a first last ≡ line_at what a n ++ fact_lines what a (n + 1) last
unfolding fact_lines
facts-rest what a first last n e = lines-rest (line_at what a) (live a.entries) first last n e

pub facts-none : (what : Fact) (a : Archive) (first last : ℕ) → first_of (live_in (live a.entries) first last) ≡ None → fact_lines what a first last ≡ []
unfolding fact_lines
facts-none what a first last e = lines-none (line_at what a) (live a.entries) first last e

pub fields-rest : (name : List ℕ) (entries : List Entry) (first last n : ℕ) → first_of (live_in entries first last) ≡ Some n → field_lines name entries first last ≡ field_at name entries n ++ field_lines name entries (n + 1) last
unfolding field_lines
fields-rest name entries first last n e = lines-rest (field_at name entries) entries first last n e

pub fields-none : (name : List ℕ) (entries : List Entry) (first last : ℕ) → first_of (live_in entries first last) ≡ None → field_lines name entries first last ≡ []
unfolding field_lines
fields-none name entries first last e = lines-none (field_at name entries) entries first last e
