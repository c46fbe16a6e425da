-- The parts of a commit's content.
use Rattle.std.proofs.Common.{◌≡◌, ◌≢◌, ℕ, List, [], Option, sym, ap, ◌∙◌}
use Rattle.std.specs.Prelude.{ℤ}
use Rattle.arch_base.specs.declared.ids.Form.{Form}
use Rattle.arch_base.specs.declared.ids.ObjectId.{ObjectId}
use Rattle.arch_base.specs.Ids.{IsObjectId}
use Rattle.git_objects.specs.declared.commits.Commit.{Commit}
use Rattle.git_objects.specs.CleanText.{IsCleanText}
use Rattle.git_objects.specs.Fronts.{Lacks, Begins, Both, in_turn}
use Rattle.git_objects.specs.Commits.{IsCommit, IsContentOf, HoldsNoCommit, IsParent, IsNumber, IsCommitZone, commit_content, tree_line, parent_part, name_part, email_part, number_part, zone_text, committed_part, text_part}

-- The four parts: ids, author, time, and the end of the content.
abbrev ids : ObjectId × Option ObjectId → List ℕ → List ℕ
ids = in_turn tree_line parent_part

abbrev person : List ℕ × List ℕ → List ℕ → List ℕ
person = in_turn name_part email_part

abbrev time : ℕ × ℤ → List ℕ → List ℕ
time = in_turn (number_part 32) zone_text

abbrev end_part : ℕ × List ℕ → List ℕ → List ℕ
end_part = in_turn committed_part (text_part 10)

-- The bytes after each part of a commit.
abbrev after_time : Commit → List ℕ
after_time c = end_part (c.committed, c.subject) []

abbrev after_person : Commit → List ℕ
after_person c = time (c.secs, c.zone) (after_time c)

abbrev after_ids : Commit → List ℕ
after_ids c = person (c.author, c.email) (after_person c)

-- Commits with equal fields are equal.
commit-once : (c : Commit) (tree : ObjectId) (parent : Option ObjectId) (name email : List ℕ) (secs : ℕ) (zone : ℤ) (moment : ℕ) (subject : List ℕ)
    → c.tree ≡ tree → c.parent ≡ parent → c.author ≡ name → c.email ≡ email → c.secs ≡ secs → c.zone ≡ zone → c.committed ≡ moment → c.subject ≡ subject
    → (let d : Commit = record { tree = tree; parent = parent; author = name; email = email; secs = secs; zone = zone; committed = moment; subject = subject } in c ≡ d)
commit-once c tree parent name email secs zone moment subject a b d e f g h k = λ i. record {
  tree = a i;
  parent = b i;
  author = d i;
  email = e i;
  secs = f i;
  zone = g i;
  committed = h i;
  subject = k i;
}

-- Bytes that don't start with ids are no commit.
pub no_ids : (form : Form) (bytes : List ℕ) → Lacks (Both (IsObjectId form) (IsParent form)) ids bytes → HoldsNoCommit form bytes
no_ids form bytes none = λ c valid is. none (c.tree, c.parent) (after_ids c) (valid.tree, valid.parent) is

-- The parts that are read, and the bytes after each.
pub record ReadIds (form : Form) (bytes : List ℕ) (tree : ObjectId) (parent : Option ObjectId) (rest : List ℕ) : Type 0 where
  pub begins : Begins (Both (IsObjectId form) (IsParent form)) ids bytes (tree, parent) rest

pub record ReadPerson (bytes name email rest : List ℕ) : Type 0 where
  pub begins : Begins (Both IsCleanText IsCleanText) person bytes (name, email) rest

pub record ReadTime (bytes : List ℕ) (secs : ℕ) (zone : ℤ) (rest : List ℕ) : Type 0 where
  pub begins : Begins (Both IsNumber IsCommitZone) time bytes (secs, zone) rest

pub record ReadEnd (bytes : List ℕ) (moment : ℕ) (subject rest : List ℕ) : Type 0 where
  pub begins : Begins (Both IsNumber IsCleanText) end_part bytes (moment, subject) rest

-- A commit has the ids that are read.
ids-are : {form : Form} {bytes rest : List ℕ} {tree : ObjectId} {parent : Option ObjectId} (one : ReadIds form bytes tree parent rest) (c : Commit) → IsCommit form c → bytes ≡ commit_content c
    → (c.tree ≡ tree) × (c.parent ≡ parent) × (rest ≡ after_ids c)
ids-are one c valid is =
    let same = one.begins.only (c.tree, c.parent) (after_ids c) (valid.tree, valid.parent) is in
    (ap (λ (p : ObjectId × Option ObjectId). p.0) (sym same.0), ap (λ (p : ObjectId × Option ObjectId). p.1) (sym same.0), same.1)

-- A commit has the author that is read.
person-are : {form : Form} {bytes rest name email : List ℕ} (two : ReadPerson bytes name email rest) (c : Commit) → IsCommit form c → bytes ≡ after_ids c
    → (c.author ≡ name) × (c.email ≡ email) × (rest ≡ after_person c)
person-are two c valid is =
    let same = two.begins.only (c.author, c.email) (after_person c) (valid.author, valid.email) is in
    (ap (λ (p : List ℕ × List ℕ). p.0) (sym same.0), ap (λ (p : List ℕ × List ℕ). p.1) (sym same.0), same.1)

-- A commit has the time that is read.
time-are : {form : Form} {bytes rest : List ℕ} {secs : ℕ} {zone : ℤ} (three : ReadTime bytes secs zone rest) (c : Commit) → IsCommit form c → bytes ≡ after_person c
    → (c.secs ≡ secs) × (c.zone ≡ zone) × (rest ≡ after_time c)
time-are three c valid is =
    let same = three.begins.only (c.secs, c.zone) (after_time c) (valid.secs, valid.zone) is in
    (ap (λ (p : ℕ × ℤ). p.0) (sym same.0), ap (λ (p : ℕ × ℤ). p.1) (sym same.0), same.1)

-- A commit has the end that is read.
end-are : {form : Form} {bytes rest subject : List ℕ} {moment : ℕ} (four : ReadEnd bytes moment subject rest) (c : Commit) → IsCommit form c → bytes ≡ after_time c
    → (c.committed ≡ moment) × (c.subject ≡ subject) × (rest ≡ [])
end-are four c valid is =
    let same = four.begins.only (c.committed, c.subject) [] (valid.committed, valid.subject) is in
    (ap (λ (p : ℕ × List ℕ). p.0) (sym same.0), ap (λ (p : ℕ × List ℕ). p.1) (sym same.0), same.1)

-- Bytes without an author are no commit.
pub no_person : {form : Form} (bytes rest : List ℕ) (tree : ObjectId) (parent : Option ObjectId) → ReadIds form bytes tree parent rest → Lacks (Both IsCleanText IsCleanText) person rest → HoldsNoCommit form bytes
no_person bytes rest tree parent one none = λ c valid is. none (c.author, c.email) (after_person c) (valid.author, valid.email) (ids-are one c valid is).2

-- Bytes without a time are no commit.
pub no_time : {form : Form} (bytes rest later name email : List ℕ) (tree : ObjectId) (parent : Option ObjectId) → ReadIds form bytes tree parent rest → ReadPerson rest name email later
    → Lacks (Both IsNumber IsCommitZone) time later → HoldsNoCommit form bytes
no_time bytes rest later name email tree parent one two none = λ c valid is.
    none (c.secs, c.zone) (after_time c) (valid.secs, valid.zone) (person-are two c valid (ids-are one c valid is).2).2

-- Bytes without an end are no commit.
pub no_end : {form : Form} (bytes rest later last name email : List ℕ) (tree : ObjectId) (parent : Option ObjectId) (secs : ℕ) (zone : ℤ) → ReadIds form bytes tree parent rest → ReadPerson rest name email later
    → ReadTime later secs zone last → Lacks (Both IsNumber IsCleanText) end_part last → HoldsNoCommit form bytes
no_end bytes rest later last name email tree parent secs zone one two three none = λ c valid is.
    none (c.committed, c.subject) [] (valid.committed, valid.subject) (time-are three c valid (person-are two c valid (ids-are one c valid is).2).2).2

-- Bytes that go on after the end are no commit.
pub more_after : {form : Form} (bytes rest later last name email subject more : List ℕ) (tree : ObjectId) (parent : Option ObjectId) (secs : ℕ) (zone : ℤ) (moment : ℕ) → ReadIds form bytes tree parent rest
    → ReadPerson rest name email later → ReadTime later secs zone last → ReadEnd last moment subject more → more ≢ [] → HoldsNoCommit form bytes
more_after bytes rest later last name email subject more tree parent secs zone moment one two three four some = λ c valid is.
    some (end-are four c valid (time-are three c valid (person-are two c valid (ids-are one c valid is).2).2).2).2

-- Otherwise the commit is the one with these parts.
pub parts-found : {form : Form} (bytes rest later last name email subject more : List ℕ) (tree : ObjectId) (parent : Option ObjectId) (secs : ℕ) (zone written : ℤ) (moment : ℕ) → ReadIds form bytes tree parent rest
    → ReadPerson rest name email later → ReadTime later secs zone last → ReadEnd last moment subject more → more ≡ [] → written ≡ zone
    → IsContentOf form bytes (record { tree = tree; parent = parent; author = name; email = email; secs = secs; zone = written; committed = moment; subject = subject })
parts-found bytes rest later last name email subject more tree parent secs zone written moment one two three four none same_zone =
    let spelled_end : last ≡ end_part (moment, subject) [] = four.begins.spelled ∙ ap (end_part (moment, subject)) none in
    let spelled_time : later ≡ time (secs, written) (end_part (moment, subject) []) = rw same_zone (three.begins.spelled ∙ ap (time (secs, zone)) spelled_end) in
    let spelled_person = two.begins.spelled ∙ ap (person (name, email)) spelled_time in
    record {
      valid = record {
        tree = one.begins.valid_one.0;
        parent = one.begins.valid_one.1;
        author = two.begins.valid_one.0;
        email = two.begins.valid_one.1;
        secs = three.begins.valid_one.0;
        zone = rw same_zone three.begins.valid_one.1;
        committed = four.begins.valid_one.0;
        subject = four.begins.valid_one.1;
      };
      spelled = one.begins.spelled ∙ ap (ids (tree, parent)) spelled_person;
      only = λ c valid is.
          let first = ids-are one c valid is in
          let second = person-are two c valid first.2 in
          let third = time-are three c valid second.2 in
          let fourth = end-are four c valid third.2 in
          commit-once c tree parent name email secs written moment subject first.0 first.1 second.0 second.1 third.0 (third.1 ∙ sym same_zone) fourth.0 fourth.1;
    }
