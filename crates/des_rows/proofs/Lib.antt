pub mod MappedLists
