-- What a run of the program is given: the key, the input, the two sinks and the journal's disk.

pub record Outside (K S O L D : Type 0) : Type 0 where
  pub key : K
  pub input : S
  pub out : O
  pub log : L
  pub disk : D

abbrev pub outside : {K S O L D : Type 0} → K → S → O → L → D → Outside K S O L D
outside key input out log disk = record {
  key = key;
  input = input;
  out = out;
  log = log;
  disk = disk;
}
