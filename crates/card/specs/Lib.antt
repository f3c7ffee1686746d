-- What the program writes on a card, and what it prints.
pub mod Program
