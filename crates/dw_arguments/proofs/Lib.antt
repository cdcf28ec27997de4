mod CommandLemmas
mod NumberLemmas
